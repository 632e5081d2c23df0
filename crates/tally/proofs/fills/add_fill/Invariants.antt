-- Invariant: the tiles before this one are counted.
use Rattle.std.proofs.Common.{◌-◌}
use Rattle.span.specs.Spans.{tiles}
use Rattle.tally.proofs.Sums.{UpTo}
use Rattle.tally.proofs.fills.add_fill.Given as goal

abbrev pub invariant-loop-tile : goal.invariant-loop-tile
invariant-loop-tile l = UpTo l.width l.ids l.id (tiles l.span) l.tile l.painted l.hidden

abbrev pub decreases-loop-tile : goal.decreases-loop-tile
decreases-loop-tile l = l.span.end - l.tile
