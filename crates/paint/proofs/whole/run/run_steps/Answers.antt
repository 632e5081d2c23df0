use Rattle.std.proofs.Common.{refl, false, arith}
use Rattle.sizes.proofs.Refusals.{not_done}
use Rattle.paint.proofs.Two.{same_then}
use Rattle.paint.proofs.WholeRuns.{rest-refused, rest-stopped, rest-finished, rest-on, rest_end}
use Rattle.paint.proofs.whole.run.run_steps.Goals as goal

-- the first step is refused: no piece is listed then
pub returns-then-steps-eq0-clause-run : goal.returns-then-steps-eq0-clause-run
returns-then-steps-eq0-clause-run c =
    (rw (c.loop-steps.invariant.none c.if-steps-eq0.true) at (rest-refused _ _ c.loop-steps.invariant.rest c.loop-steps-test.true _ _ _ _ c.in-Err.ensures.list_after (not_done _) c.if-steps-eq0.true))

pub returns-in-Err-clause-run : goal.returns-in-Err-clause-run
returns-in-Err-clause-run c =
    rw c.so_far.ensures (rest-stopped _ _ c.loop-steps.invariant.rest c.loop-steps-test.true _ _ _ _ c.in-Err.ensures.list_after (not_done _) c.if-steps-eq0.false false refl)

pub returns-then-done-clause-run : goal.returns-then-done-clause-run
returns-then-done-clause-run c =
    rest-finished _ _ c.loop-steps.invariant.rest c.loop-steps-test.true _ _ _ _ c.in-Ok.ensures.list_after refl c.if-done.true

pub loop-steps-preserved : goal.loop-steps-preserved
loop-steps-preserved c = record {
  rest = rest-on _ _ c.loop-steps.invariant.rest c.loop-steps-test.true _ _ _ _ c.in-Ok.ensures.list_after refl c.if-done.false;
  same = same_then c.loop-steps.invariant.same c.in-Ok.ensures.same;
  few = omega (arith, c.in-Ok.ensures.pieces_in_bounds_2);
  none = λ h. absurd (omega arith);
}

pub returns-clause-run : goal.returns-clause-run
returns-clause-run c = rw c.so_far-2.ensures (rest_end _ _ c.loop-steps.invariant.rest c.loop-steps-test.false)
