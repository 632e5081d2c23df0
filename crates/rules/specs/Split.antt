-- Rule 7: an eligible span is split over buckets of w tiles.
use Rattle.std.specs.Prelude.{ℕ, ◌+◌, ◌-◌, ◌*◌, ◌/◌, cond, List, [], ◌∷◌, leb, ltb}
use Rattle.sizes.specs.Sizes.{tile-end}
use Rattle.rules.specs.Lists.{keep}
use Rattle.rules.specs.Spans.{Span, span, bad-range}
use Rattle.rules.specs.Answers.{Answer, answer, BadRun, Done}

-- a regular piece, of tiles, or a depth fill, of buckets
pub data Part : Type 0 where
  regular : Span → Part
  buckets : Span → Part

-- x raised, or lowered, to a multiple of w
abbrev pub raised : ℕ → ℕ → ℕ
raised w x = (x + (w - 1)) / w * w

abbrev pub lowered : ℕ → ℕ → ℕ
lowered w x = x / w * w

-- a depth fill from tile a to tile b, with a regular piece on each side where the span goes further
abbrev pub around : ℕ → Span → ℕ → ℕ → List Part
around w s a b =
    keep (ltb s.first a) (regular (span s.first a))
    (buckets (span (a / w) (b / w)) ∷ keep (ltb b s.end) (regular (span b s.end)) [])

-- one regular piece, even if empty, where no whole bucket is covered
unfoldable pub split : ℕ → Span → List Part
split w s =
    let a = raised w s.first in
    let b = lowered w s.end in
    cond (leb b a) (regular s ∷ []) (around w s a b)

-- the call: 12 for a bad range
unfoldable pub split_answer : ℕ → Span → Answer (List Part)
split_answer w s = cond (bad-range tile-end s) (answer BadRun []) (answer Done (split w s))
