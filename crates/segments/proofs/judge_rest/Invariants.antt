-- So far the segments before i are good.
use Rattle.segments.proofs.Judging.{RestAt}
use Rattle.segments.proofs.judge_rest.Given as goal

abbrev pub invariant-loop-i : goal.invariant-loop-i
invariant-loop-i l = RestAt l.list l.start l.end l.i
