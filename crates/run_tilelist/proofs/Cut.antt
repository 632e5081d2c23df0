-- A file that is cut where it is too long is listed as the whole is.
use Rattle.std.proofs.Common.{◌≡◌, ℕ, ◌<◌, List, length, take, refl, sym, ◌∙◌, lt-ltb}
use Rattle.sizes.specs.declared.edition.Edition.{Edition}
use Rattle.sizes.specs.declared.width.Width.{Width}
use Rattle.rules.specs.Answers.{BadForm}
use Rattle.rules.specs.Setups.{Mode}
use Rattle.rules_reason.specs.Answers.{refused-bytes}
use Rattle.rules_reason.specs.TileList.{list-text, no-width-text}
use Rattle.text_programs.specs.Arguments.{Wanted, ReadAs, as-screen, as-no-width, as-no-edition}
use Rattle.text_programs.proofs.Cut.{cut-at}
use Rattle.text_tiles.specs.declared.arguments.TilePlace.{TilePlace}
use Rattle.text_tiles.specs.Printed.{ReadsTo}
use Rattle.run_tilelist.specs.Printed.{text_read, answer}

module _ (e : Edition) where
  long-list : (m : Mode) (w : Width) (row tile : ℕ) (bs : List ℕ) → 1048576 < length bs → list-text e m w bs row tile ≡ refused-bytes BadForm
  unfolding list-text
  long-list m w row tile bs h = rw (lt-ltb 1048576 (length bs) h, list-text)

  list-cut : (m : Mode) (w : Width) (row tile : ℕ) (bs : List ℕ) → list-text e m w (take 1048577 bs) row tile ≡ list-text e m w bs row tile
  list-cut m w row tile = cut-at 1048576 (λ bs. list-text e m w bs row tile) (λ xs ys h k. long-list m w row tile xs h ∙ sym (long-list m w row tile ys k))

  long-no-width : (bs : List ℕ) → 1048576 < length bs → no-width-text e bs ≡ refused-bytes BadForm
  unfolding no-width-text
  long-no-width bs h = rw (lt-ltb 1048576 (length bs) h, no-width-text)

  no-width-cut : (bs : List ℕ) → no-width-text e (take 1048577 bs) ≡ no-width-text e bs
  no-width-cut = cut-at 1048576 (no-width-text e) (λ xs ys h k. long-no-width xs h ∙ sym (long-no-width ys k))

read-cut : (r : ReadAs) (p : TilePlace) (bs : List ℕ) → text_read r p (take 1048577 bs) ≡ text_read r p bs
read-cut (as-screen e m w) p bs = list-cut e m w p.row p.tile bs
read-cut (as-no-width e) p bs = no-width-cut e bs
read-cut as-no-edition p bs = refl

pub answer-cut : (want : Wanted) → ReadsTo 1048577 (answer want)
answer-cut want p bs = read-cut want.reading p bs
