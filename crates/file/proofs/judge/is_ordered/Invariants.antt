-- So far the segments before i are in order; all are good.
use Rattle.std.proofs.Common.{true}
use Rattle.segments.specs.Segs.{segment-of}
use Rattle.segments.proofs.Judging.{AtPlace}
use Rattle.file.proofs.judge.is_ordered.Given as goal

abbrev pub invariant-loop-i : goal.invariant-loop-i
invariant-loop-i l = AtPlace l.list l.start l.end (segment-of l.last) true l.i
