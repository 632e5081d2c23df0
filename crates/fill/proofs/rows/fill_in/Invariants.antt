-- At segment i the rest has room, and doing it from here gives what doing all from start would (`Filling`).
use Rattle.std.proofs.Common.{◌-◌}
use Rattle.row.specs.Rows.{all-held, SameRows}
use Rattle.row.specs.Arena.{count-rows}
use Rattle.fill.proofs.RowsLaws.{Filling}
use Rattle.fill.proofs.rows.fill_in.Given as goal

abbrev pub invariant-loop-i : goal.invariant-loop-i
invariant-loop-i g l = SameRows l.initial.rows l.rows × Filling l.job (count-rows l.initial.rows.state.now) l.segs l.start l.end (all-held l.initial.rows) l.i (all-held l.rows)

abbrev pub decreases-loop-i : goal.decreases-loop-i
decreases-loop-i g l = l.end - l.i
