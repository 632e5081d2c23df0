-- So far the segments before i are good and tallied: the row at hand with its counts, and the number found so far.
use Rattle.segments.specs.Segs.{segment-of}
use Rattle.row.specs.Arena.{count-rows}
use Rattle.row.specs.Room.{at-hand}
use Rattle.fill.proofs.Hands.{Passing}
use Rattle.fill.proofs.judge.judge_each.Given as goal

abbrev pub invariant-loop-i : goal.invariant-loop-i
invariant-loop-i l = Passing l.job (count-rows l.rows) l.rows l.list l.start l.end (segment-of l.last) (at-hand l.hand) l.i
