use Rattle.paint.proofs.Spreading.{spread-again, spread_end}
use Rattle.paint.proofs.pieces.spread.Goals as goal

pub loop-left-preserved : goal.loop-left-preserved
loop-left-preserved c = spread-again _ _ _ _ _ _ c.loop-left.invariant _ c.loop-left-test.true (rw c.piece-piece.ensures at c.put.ensures)

pub returns : goal.returns
returns c = spread_end _ _ _ _ _ _ c.loop-left.invariant c.loop-left-test.false
