-- The doing half of a fill: the rules' puts at rows of words, and what the judging half has shown.
use Rattle.std.specs.Prelude.{ℕ, ◌+◌, ◌-◌, ◌*◌, ◌/◌, ◌≤◌, ◌<◌, ◌≡◌, true, List, [], ◌∷◌, get_or, length}
use Rattle.std.specs.Prelude.{Option}
use Rattle.sizes.specs.Sizes.{most-layers, tile-height}
use Rattle.rules.specs.Lists.{join, every}
use Rattle.rules.specs.Spans.{Span}
use Rattle.rules.specs.Segments.{Segment, Cut, cut_in, good-segment}
use Rattle.rules.specs.Plans.{Put, draw-puts}
use Rattle.rules.specs.Steps.{do-puts}
use Rattle.sizes.specs.Widths.{bucket-tiles}
use Rattle.row.specs.Words.{Words, word-ops, Room}
use Rattle.row.specs.Acts.{drawn}
use Rattle.row.specs.Arena.{nowhere, sizes, cut, Arenas}
use Rattle.segments.specs.Segs.{seg-at, segs, origin, bounds, Starts}
use Rattle.fill.specs.declared.rows.FillJob.{FillJob}

-- rule 4: what is left of a segment in the job's clip box
abbrev pub cut_for : FillJob → Segment → List Cut
cut_for j g = cut_in (origin j.scene) (bounds j.scene) g

-- .. of the segments from a to b
abbrev pub cuts-of : FillJob → List ℕ → ℕ → ℕ → List Cut
cuts-of j ws a b = join (cut_for j) (segs ws a (b - a))

-- rules 5 to 7 on one row
abbrev pub draws : FillJob → Span → Option ℕ → Words → Words
draws j s a w = drawn (bucket-tiles j.width) j.layers j.eligible s a j.attr j.id w

-- rule 4: a cut segment's acts
abbrev pub puts_of : FillJob → List Cut → List Put
puts_of j ks = draw-puts j.eligible j.attr j.id ks

-- what segment i puts on rows
abbrev pub one-put : FillJob → List ℕ → ℕ → List Put
one-put j ws i = puts_of j (cut_for j (seg-at ws i))

-- what k segments from i on put on rows
abbrev pub puts : FillJob → List ℕ → ℕ → ℕ → List Put
puts j ws i k = puts_of j (join (cut_for j) (segs ws i k))

abbrev pub done : FillJob → List Put → List Words → List Words
done j ps rs = do-puts Words word-ops (bucket-tiles j.width) j.layers ps rs

-- cut segments on one row's words, one after the other
abbrev pub draw-all : FillJob → List Cut → Words → Words
draw-all j [] w = w
draw-all j (k ∷ ks) w = draw-all j ks (draws j k.stretch.tiles k.stretch.alpha w)

-- what is left of the segments from a to b, which stand on one row, on its words
abbrev pub run_of : FillJob → List ℕ → ℕ → ℕ → Words → Words
run_of j ws a b w = draw-all j (cuts-of j ws a b) w

-- the segments from a to b stand on a row
abbrev pub OnRow : List ℕ → ℕ → ℕ → ℕ → Type 0
OnRow ws row a b = (i : ℕ) → a ≤ i → i < b → (seg-at ws i).row ≡ row

-- each row that is put on has room for what the whole makes of it
pub data Roomy : List Put → List Words → List Words → Type 0 where
  none-put : {rs ts : List Words} → Roomy [] rs ts
  one_more : {rs ts : List Words} {p : Put} {ps : List Put} → Room (get_or rs p.row nowhere) (get_or ts p.row nowhere) → Roomy ps rs ts → Roomy (p ∷ ps) rs ts

-- n rows of words, and the job's other numbers
pub record Fits (j : FillJob) (n : ℕ) (w : Words) : Type 0 where
  pub arenas : Arenas j.c j.d n w
  pub layers : j.layers ≤ most-layers
  pub starts : Starts (origin j.scene) (bounds j.scene)
  pub bottom : j.scene.rows.end ≤ j.scene.y / tile-height + n

-- what the judging half has shown of the segments from a to b
pub record FillReady (j : FillJob) (n : ℕ) (ws : List ℕ) (a b : ℕ) (w : Words) : Type 0 where
  pub fits : Fits j n w
  pub before : a ≤ b
  pub within : 5 * b ≤ length ws
  pub good : every good-segment (segs ws a (b - a)) ≡ true
  pub room : Roomy (puts j ws a (b - a)) (cut (sizes j.c j.d) n w) (done j (puts j ws a (b - a)) (cut (sizes j.c j.d) n w))

-- a run of segments that are not solid begins at a, on a row whose words w have room for it, up to b at most; something is left of the first
pub record RunReady (j : FillJob) (ws : List ℕ) (row a b : ℕ) (w : Words) : Type 0 where
  pub before : a < b
  pub within : 5 * b ≤ length ws
  pub layers : j.layers ≤ most-layers
  pub starts : Starts (origin j.scene) (bounds j.scene)
  pub good : (i : ℕ) → a ≤ i → i < b → good-segment (seg-at ws i) ≡ true
  pub here : (seg-at ws a).row ≡ row
  pub index : (seg-at ws a).kind ≡ 0 → ⊥
  pub first : Cut
  pub left : first ∷ [] ≡ cut_for j (seg-at ws a)
  pub room : (t : ℕ) → a < t → t ≤ b → OnRow ws row a t → Room w (run_of j ws a t w)
