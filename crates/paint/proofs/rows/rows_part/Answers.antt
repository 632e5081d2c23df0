-- A row is done, or stops; or none is left.
use Rattle.std.proofs.Common.{refl, arith}
use Rattle.sizes.proofs.Refusals.{not_done}
use Rattle.paint.proofs.Two.{canvas_then}
use Rattle.paint.proofs.InOrder.{stopped, turned_on, all_done}
use Rattle.paint.proofs.rows.rows_part.Goals as goal

pub returns-in-Some-clause-painted : goal.returns-in-Some-clause-painted
returns-in-Some-clause-painted c =
    stopped _ _ _ _ _ _ _ c.loop-row.invariant.rest c.loop-row-test.true _ _ _ _ (rw c.in-Some.is at c.turn_row-turn.ensures.painted) (not_done _)

pub loop-row-preserved : goal.loop-row-preserved
loop-row-preserved c = record {
  same = canvas_then c.loop-row.invariant.same c.turn_row-turn.ensures.same;
  few = omega (arith, c.turn_row-turn.ensures.fits, c.turn_row-turn.auto.list);
  rest = turned_on _ _ _ _ _ _ _ c.loop-row.invariant.rest c.loop-row-test.true _ _ _ _ (rw c.in_default.is at c.turn_row-turn.ensures.painted) (omega arith) refl;
}

pub returns-clause-painted : goal.returns-clause-painted
returns-clause-painted c = all_done _ _ _ _ _ _ _ c.loop-row.invariant.rest c.loop-row-test.false (omega arith)
