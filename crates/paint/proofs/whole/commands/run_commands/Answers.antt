-- A command that is settled is one step more.
use Rattle.std.proofs.Common.{◌∙◌, [], arith}
use Rattle.paint.proofs.Along.{reach-both}
use Rattle.paint.proofs.whole.commands.run_commands.Goals as goal

pub settle-requires-clause-at : goal.settle-requires-clause-at
settle-requires-clause-at c =
    rw c.of-seen.ensures.same (omega (arith, c.requires.start_le_stop, c.loop-at-test.true), (c.loop-at.invariant.reaches []).shallow)

pub loop-at-preserved : goal.loop-at-preserved
loop-at-preserved c =
    let so_far = c.loop-at.invariant in
    let step = (rw c.of-seen.ensures.same at c.in-Some.ensures.settled) in
    record {
      reaches = λ ms. reach-both _ _ _ _ _ _ (so_far.reaches ms) (step ms);
      at_le_stop = omega (arith, c.loop-at-test.true);
      same = c.settle.ensures.same ∙ so_far.same;
    }

-- nothing has changed where one is not settled
pub returns-in_default-clause-reaches : goal.returns-in_default-clause-reaches
returns-in_default-clause-reaches c =
    let stay = (rw c.in_default.is at c.settle.ensures.settled) in
    λ ms. rw (stay.0, stay.1) (c.loop-at.invariant.reaches ms)
