-- The code's spans and stretches as the rules'. An alpha index is in both an option of a number.
use Rattle.std.specs.Prelude.{Option, None, Some, ℕ, ◌+◌, ◌*◌, ◌<◌}
use Rattle.sizes.specs.Sizes.{tile-alphas}
use Rattle.rules.specs.Spans as rule
use Rattle.rules.specs.Spans.{Span, span}
use Rattle.span.specs.declared.TileSpan.{TileSpan}
use Rattle.span.specs.declared.BucketRange.{BucketRange}
use Rattle.span.specs.declared.Stretch.{Stretch}

abbrev pub tiles : TileSpan → Span
tiles s = span s.first s.end

abbrev pub buckets : BucketRange → Span
buckets b = span b.first b.end

-- an alpha index that n tiles on is still a u32
abbrev pub Moves : Option ℕ → ℕ → Type 0
Moves None n = Unit
Moves (Some a) n = a + tile-alphas * n < 4294967296

abbrev pub stretch : Stretch → rule.Stretch
stretch s = record { tiles = tiles s.tiles; alpha = s.alpha }
