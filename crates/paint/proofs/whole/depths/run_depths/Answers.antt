-- A fill that is settled is one step more.
use Rattle.std.proofs.Common.{◌≡◌, ◌∙◌, ◌+◌, ◌-◌, arith}
use Rattle.paint.proofs.WholeRuns.{onward-both}
use Rattle.paint.proofs.whole.depths.run_depths.Goals as goal

pub loop-k-preserved : goal.loop-k-preserved
loop-k-preserved c =
    let so_far = c.loop-k.invariant in
    let step = c.settle_depth.ensures in
    let settled = c.if-not-settle_depth.ensures.settled in
    let back : c.loop-k.k - 1 + 1 ≡ c.loop-k.k = omega (arith, c.loop-k-test.true) in
    let more : c.args.left - (c.loop-k.k - 1) ≡ c.args.left - c.loop-k.k + 1 = omega (arith, so_far.below, c.loop-k-test.true) in
    record {
      below = omega (arith, so_far.below);
      above = omega (arith, c.loop-k-test.true);
      same = step.same ∙ so_far.same;
      depth = step.long.0 ∙ so_far.depth;
      minima = step.long.1 ∙ so_far.minima;
      list = step.long.2 ∙ so_far.list;
      onward = λ m h. rw more (onward-both _ _ 1 _ _ _ (so_far.onward m h) (rw back at (settled m h)));
    }
