-- So far the last runs are spread: pieces are written from the last to the first, so that no run is overwritten before it is read.
use Rattle.paint.proofs.Spreading.{Spreading}
use Rattle.paint.proofs.pieces.spread.Given as goal

abbrev pub invariant-loop-left : goal.invariant-loop-left
invariant-loop-left l = Spreading l.width l.brush l.initial.list l.n l.left l.list

abbrev pub decreases-loop-left : goal.decreases-loop-left
decreases-loop-left l = l.left
