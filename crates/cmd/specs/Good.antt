-- Commands and depth fills that words can stand for: spans in order and within their limit, alpha indices that can be moved over their span.
use Rattle.std.specs.Prelude.{Option, None, Some}
use Rattle.std.specs.Prelude.{ℕ, ◌+◌, ◌-◌, ◌*◌, ◌≤◌, ◌<◌}
use Rattle.sizes.specs.Sizes.{tile-end, tile-alphas}
use Rattle.rules.specs.Spans.{Span}
use Rattle.rules.specs.Commands.{Command, paint-fill, layer-fill, push-buf, pop-buf, DepthFill}

pub record GoodSpan (limit : ℕ) (s : Span) : Type 0 where
  pub in_order : s.first ≤ s.end
  pub in-limit : s.end ≤ limit

abbrev pub GoodAlpha : Span → Option ℕ → Type 0
GoodAlpha s None = Unit
GoodAlpha s (Some a) = a + tile-alphas * (s.end - s.first) < 4294967296

abbrev pub GoodPush : Option Span → Type 0
GoodPush None = Unit
GoodPush (Some s) = GoodSpan tile-end s

abbrev pub GoodCommand : Command → Type 0
GoodCommand (paint-fill s a i) = GoodSpan tile-end s × GoodAlpha s a
GoodCommand (layer-fill s a i) = GoodSpan tile-end s × GoodAlpha s a
GoodCommand (push-buf s) = GoodPush s
GoodCommand pop-buf = Unit

-- in a row of n buckets
abbrev pub GoodDepthFill : ℕ → DepthFill → Type 0
GoodDepthFill n f = GoodSpan n f.buckets
