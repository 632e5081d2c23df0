-- Invariant: n runs stand in the list, those from `from` on are still to come.
use Rattle.std.proofs.Common.{◌-◌}
use Rattle.rules.specs.Spans.{Span, common}
use Rattle.rules.specs.Depth.{is-visible, tiles-of}
use Rattle.span.specs.Spans.{tiles}
use Rattle.depth.proofs.Filling.{Filled}
use Rattle.depth.proofs.runs.list_runs.Given as goal

abbrev pub invariant-loop-run : goal.invariant-loop-run
invariant-loop-run l = Filled (is-visible l.ceiling) l.depth l.lo l.hi (λ (r : Span). common (tiles l.bounds) (tiles-of l.width r)) l.initial.list l.from l.n l.list

abbrev pub decreases-loop-run : goal.decreases-loop-run
decreases-loop-run l = l.hi - l.from
