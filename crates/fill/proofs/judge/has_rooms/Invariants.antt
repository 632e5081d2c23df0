-- The run of segments on the row at hand has come to segment i; all runs before it had room.
use Rattle.std.proofs.Common.{◌-◌}
use Rattle.row.specs.Arena.{count-rows}
use Rattle.fill.proofs.Rooms.{Rooms}
use Rattle.fill.proofs.judge.has_rooms.Given as goal

abbrev pub invariant-loop-i : goal.invariant-loop-i
invariant-loop-i l = Rooms l.job (count-rows l.rows) l.rows l.list l.start l.end l.row l.from l.i

abbrev pub decreases-loop-i : goal.decreases-loop-i
decreases-loop-i l = l.end - l.i
