-- So far the segments before k are good and in order, each row's counted.
use Rattle.segments.specs.Segs.{segment-of}
use Rattle.segments.proofs.Counting.{Counting}
use Rattle.segments.proofs.most_on_a_row.Given as goal

abbrev pub invariant-loop-k : goal.invariant-loop-k
invariant-loop-k l = Counting l.list l.start l.end (segment-of l.last) l.own l.most l.k
