-- So far the segments before i are good and in order.
use Rattle.std.proofs.Common.{true}
use Rattle.segments.specs.Segs.{segment-of}
use Rattle.segments.proofs.Judging.{AtPlace}
use Rattle.segments.proofs.judge_segments.Given as goal

abbrev pub invariant-loop-i : goal.invariant-loop-i
invariant-loop-i l = AtPlace l.list l.start l.end (segment-of l.last) true l.i
