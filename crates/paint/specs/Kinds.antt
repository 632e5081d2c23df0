-- Commands that one look settles, and runs of such commands.
use Rattle.std.specs.Prelude.{ℕ, ◌+◌, ◌-◌, ◌*◌, ◌/◌, ◌%◌, ◌≤◌, ◌≡◌, Bool, true, cond, List, [], ◌∷◌, map, length, ltb, eqb}
use Rattle.std.specs.Prelude.{None, Some}
use Rattle.sizes.specs.Sizes.{tile-end, tile-alphas, most-layers, piece-size}
use Rattle.rules.specs.Spans.{Span, span, common}
use Rattle.rules.specs.Depth.{Summary, is-visible, runs-in, tiles-of}
use Rattle.cmd.specs.Reading.{word-span}
use Rattle.cmd.specs.Commands.{read-words}
use Rattle.cmd.specs.declared.command.CmdWords.{CmdWords}
use Rattle.rules.specs.Attributes.{Attrs}
use Rattle.depth.specs.Listing.{over}
use Rattle.screen.specs.Depths.{Depths, depths}
use Rattle.paint.specs.Summaries.{good-summary, shown_runs}
use Rattle.paint.specs.Painting.{word, StepOut, out, listed, command-step, settled}
use Rattle.paint.specs.Running.{run}

-- words 2 to 4 of a row's record as its summary
abbrev pub summary-by : ℕ → ℕ → ℕ → Summary
summary-by a e n = record { union = cond (eqb n 0) None (Some (span a e)); largest = n }

-- an alpha index that a fill's tag allows over a width: none if it is odd, one that can be moved if it is even
abbrev pub good-index : ℕ → ℕ → ℕ → Bool
good-index t x n = cond (eqb (t % 2) 1) (eqb x 0) (ltb (x + tile-alphas * n) 4294967296)

-- a fill's words in order
pub record Fills (c : CmdWords) : Type 0 where
  pub low : c.span.0 / 65536 ≤ c.span.0 % 65536
  pub high : c.span.0 % 65536 ≤ tile-end
  pub index : good-index c.tag c.alpha (c.span.0 % 65536 - c.span.0 / 65536) ≡ true

-- at v tiles a bucket: the first bucket that a span word's tiles meet, and the end of those, and the runs that the id shows of them
abbrev pub low-met : ℕ → ℕ → ℕ
low-met v w = w / 65536 / v

abbrev pub high-met : ℕ → ℕ → ℕ
high-met v w = (w % 65536 + (v - 1)) / v

abbrev pub runs-met : ℕ → List ℕ → ℕ → ℕ → List Span
runs-met v D id w = runs-in (is-visible id) D (span (low-met v w) (high-met v w))

-- those runs, cut to the fill's tiles
abbrev pub tiles-met : ℕ → List ℕ → ℕ → ℕ → List Span
tiles-met v D id w = map (λ (r : Span). common (word-span w) (tiles-of v r)) (runs-met v D id w)

-- a fill in order, of whose tiles these runs are shown for the id
pub record Shows (v : ℕ) (u : Summary) (D : List ℕ) (id : ℕ) (c : CmdWords) (rs : List Span) : Type 0 where
  pub good : Fills c
  pub runs : shown_runs v u D id (word-span c.span.0) ≡ rs

-- an alpha index, so many tiles further; a solid fill has none
abbrev pub moved-index : ℕ → ℕ → ℕ → ℕ
moved-index t x n = cond (eqb (t % 2) 1) x (x + tile-alphas * n)

-- the words of a fill's run, cut to its tiles, at nesting m; p: the panel
abbrev pub run-words : ℕ → CmdWords → ℕ → ℕ → Span → List ℕ
run-words v c m p r =
    let t = common (word-span c.span.0) (tiles-of v r) in
    c.tag ∷ c.attrs_idx ∷ t.first ∷ t.end ∷ moved-index c.tag c.alpha (t.first - c.span.0 / 65536) ∷ m ∷ p ∷ []

-- .. and of all of a fill
abbrev pub whole_words : CmdWords → ℕ → ℕ → List ℕ
whole_words c m p = c.tag ∷ c.attrs_idx ∷ (c.span.0 / 65536) ∷ (c.span.0 % 65536) ∷ c.alpha ∷ m ∷ p ∷ []

-- at v tiles a bucket, over the depth words D, at nesting m
module _ (v : ℕ) (attrs : Attrs) (u : Summary) (D : List ℕ) (m : ℕ) (c : CmdWords) where
  -- the step of a command's words, after q steps; ms: the minima above the depth words
  abbrev pub step-to : List ℕ → ℕ → List ℕ → List ℕ → StepOut
  step-to ms q P l = settled (command-step v attrs u (record { buckets = D; steps = q; nesting = m }) (read-words c)) ms (depths D ms) P l

  -- the step gives n pieces, with these words, and nesting j
  pub record Gives (n : ℕ) (ws : List ℕ) (j : ℕ) : Type 0 where
    pub step : (ms : List ℕ) (q : ℕ) (P l : List ℕ) → piece-size * n ≤ length l → step-to ms q P l ≡ out (listed n) (depths D ms) ((q + 1) ∷ j ∷ []) (over ws l)

-- a row's counts have room, and its summary is in order
pub record Calm (s re fi : List ℕ) : Type 0 where
  pub renders : 4 * word s 0 ≤ length re
  pub depths : 2 * word s 1 ≤ length fi
  pub summary : good-summary s ≡ true

-- the steps from one place of a row to another, n of them, are steps of the run
abbrev pub Onward : (Depths → List ℕ → List ℕ → StepOut) → ℕ → StepOut → StepOut → Type 0
Onward step n g o = (f k : ℕ) → n ≤ f → run step f k g ≡ run step (f - n) (k + n) o

-- where a run of commands stands: the place of the next one, the pieces listed, the nesting, the list
pub record Place : Type 0 where
  pub at : ℕ
  pub pieces : ℕ
  pub nesting : ℕ
  pub list : List ℕ

abbrev pub place : ℕ → ℕ → ℕ → List ℕ → Place
place a n m l = record { at = a; pieces = n; nesting = m; list = l }

-- .. as where the painting stands, over the depth words and minima D and after d depth fills
abbrev pub stands : Depths → ℕ → Place → StepOut
stands D d p = out (listed p.pieces) D ((d + p.at) ∷ p.nesting ∷ []) p.list

-- the commands from one place to another are steps of the run
pub record Reaches (step : Depths → List ℕ → List ℕ → StepOut) (D : Depths) (d : ℕ) (a b : Place) : Type 0 where
  pub after : a.at ≤ b.at
  pub onward : Onward step (b.at - a.at) (stands D d a) (stands D d b)
  pub shallow : b.nesting ≤ most-layers
  pub few : piece-size * b.pieces ≤ length b.list
  pub long : length b.list ≡ length a.list
