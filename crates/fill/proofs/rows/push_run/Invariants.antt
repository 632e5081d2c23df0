-- At segment next the segments before it stand on the row and are drawn there (`Running`); the row got its layers before the first.
use Rattle.std.proofs.Common.{◌-◌}
use Rattle.row.specs.Row.{held, Same}
use Rattle.fill.proofs.Runs.{Running}
use Rattle.fill.proofs.rows.push_run.Given as goal

abbrev pub invariant-loop-next : goal.invariant-loop-next
invariant-loop-next g l = Same l.initial.lent l.lent × Running l.job l.segs l.run.row l.run.start l.run.end (held l.initial.lent) l.next (held l.lent)

abbrev pub decreases-loop-next : goal.decreases-loop-next
decreases-loop-next g l = l.run.end - l.next
