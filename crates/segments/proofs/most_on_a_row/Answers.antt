use Rattle.std.proofs.Common.{sym, ◌∙◌, arith}
use Rattle.segments.proofs.Counting.{counting-begun, counted-all, next-row, same-row}
use Rattle.segments.proofs.most_on_a_row.Goals.{then-here-last+else-here-last-2, else-here-last+else-here-last-3}
use Rattle.segments.proofs.most_on_a_row.Goals as goal

pub loop-k-init : goal.loop-k-init
loop-k-init c = counting-begun c.args.list.now c.args.start c.args.end c.requires.order

pub loop-k-preserved : goal.loop-k-preserved
loop-k-preserved c =
    let good = sym c.is_good.ensures ∙ c.if-not-is_good.false in
    elim c.if-here-last.branch [
      | then-here-last+else-here-last-2 w ↦
          rw w.own-is (next-row c.loop-k.invariant c.loop-k-test.true c.segment_at-here.ensures good c.max-most.result (omega (arith, w.if-here-last.true, w.if-here-last-2.false)) (omega (arith, c.max-most.ensures)) (omega (arith, c.max-most.ensures, w.own-is)))
      | else-here-last+else-here-last-3 w ↦
          rw w.own-is (same-row c.loop-k.invariant c.loop-k-test.true c.segment_at-here.ensures good c.max-most.result w.if-here-last.false (omega (arith, w.if-here-last-3.false)) (omega (arith, c.max-most.ensures)) (omega (arith, c.max-most.ensures, w.own-is)))
    ]

pub returns : goal.returns
returns c = counted-all c.loop-k.invariant c.loop-k-test.false
