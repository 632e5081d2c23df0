-- A whole screen's words: the words of its rows, one after the other. Assumes nothing.
use Rattle.std.proofs.Common.{◌≡◌, refl, ap, List, [], ◌∷◌, map, ℕ, zero, suc, ◌*◌, length, replicate}
use Rattle.rules.specs.Boxes.{rows_of}
use Rattle.rules.specs.Rows.{Row, fresh-row}
use Rattle.rules.specs.Plans.{Frame}
use Rattle.rules.specs.Steps.{reset}
use Rattle.rules.specs.Commands.{command_words, depth-words}
use Rattle.rules.specs.Lists.{join}
use Rattle.rules.proofs.All.{All, all-mapped}
use Rattle.rules.proofs.laws.Maps.{screen-by}
use Rattle.row.specs.Words.{Words, words}
use Rattle.row.specs.Arena.{sizes, Sized, Long, cut, lay}
use Rattle.row.proofs.RowsLaws.{cut-lay, lay-long}
use Rattle.refine_row.specs.Encode.{stack, encode}
use Rattle.refine_row.proofs.Pads.{padded-length}
use Rattle.refine_row.proofs.Refines.{fresh-words}

-- each row has its own words
pub encode-sized : (c d : ℕ) (r : Row) → Sized (sizes c d) (encode c d r)
unfolding encode
encode-sized c d r =
    record {
      state = ap (λ (n : ℕ). suc (suc (suc (suc (suc (suc n)))))) (padded-length 48 (stack r.levels));
      render = padded-length (4 * c) (join command_words r.commands);
      fills = padded-length (2 * d) (join depth-words r.fills);
    }

module _ (c d : ℕ) (rows : List Row) where
  rows-length : (rs : List Row) → length (map (encode c d) rs) ≡ length rs
  rows-length [] = refl
  rows-length (r ∷ rs) = ap suc (rows-length rs)

  all-sized : All (Sized (sizes c d)) (map (encode c d) rows)
  all-sized = all-mapped (encode c d) (encode-sized c d) rows

  -- the rows that are cut out of the words of a screen are the rows' words
  pub cut-screen : cut (sizes c d) (length rows) (lay (map (encode c d) rows)) ≡ map (encode c d) rows
  cut-screen = rw (← rows-length rows) (cut-lay (sizes c d) all-sized)

  pub screen-long : Long (sizes c d) (length rows) (lay (map (encode c d) rows))
  screen-long = rw (← rows-length rows) (lay-long (sizes c d) all-sized)

-- rule 1: a reset's words are 0
abbrev pub blank-row : ℕ → ℕ → Words
blank-row c d = words (replicate 54 0) (replicate (4 * c) 0) (replicate (2 * d) 0)

pub reset-words : (c d : ℕ) (f : Frame) → screen-by (encode c d) (reset fresh-row f) ≡ reset (blank-row c d) f
unfolding reset
reset-words c d f = rw (alike (rows_of f.viewport), fresh-words c d)
  where
    alike : (n : ℕ) → map (encode c d) (replicate n fresh-row) ≡ replicate n (encode c d fresh-row)
    alike zero = refl
    alike (suc n) = ap (λ t. encode c d fresh-row ∷ t) (alike n)
