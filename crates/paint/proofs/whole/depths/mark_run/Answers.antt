use Rattle.std.proofs.Common.{sym, ◌∙◌, arith, le_refl}
use Rattle.depth.proofs.Marking.{mark-open}
use Rattle.paint.proofs.DepthFills.{begun-first, one-more-unset, above_zero}
use Rattle.paint.proofs.whole.depths.mark_run.Goals as goal

pub loop-b-preserved : goal.loop-b-preserved
loop-b-preserved c = λ D fits w.
    let so_far = c.loop-b.invariant D fits w in
    let here = sym (so_far.marked.same _ (le_refl _)) ∙ c.if-depth-b-eq0.true in
    record {
      past = omega (arith, so_far.past);
      within = omega arith;
      unset = one-more-unset _ _ _ so_far.unset here;
      marked = mark-open _ _ _ _ _ _ so_far.marked fits c.loop-b-test.true here;
    }

pub returns-else-depth-b-eq0 : goal.returns-else-depth-b-eq0
returns-else-depth-b-eq0 c =
    let so_far = c.loop-b.invariant c.args.depth.now c.requires.range.1 (begun-first _ _ _ _ c.requires.range.1 c.requires.range.0 c.requires.unset) in
    let here = so_far.marked.same _ (le_refl _) in
    record {
      past = so_far.past;
      within = so_far.within;
      unset = so_far.unset;
      closed = λ h. above_zero _ (λ e. c.if-depth-b-eq0.false (here ∙ e));
      long = so_far.marked.long;
      rest = so_far.marked.rest;
      same = so_far.marked.same;
    }

pub returns-after-loop-b : goal.returns-after-loop-b
returns-after-loop-b c =
    let so_far = c.loop-b.invariant c.args.depth.now c.requires.range.1 (begun-first _ _ _ _ c.requires.range.1 c.requires.range.0 c.requires.unset) in
    record {
      past = so_far.past;
      within = so_far.within;
      unset = so_far.unset;
      closed = λ h. absurd (omega (arith, c.loop-b-test.false));
      long = so_far.marked.long;
      rest = so_far.marked.rest;
      same = so_far.marked.same;
    }
