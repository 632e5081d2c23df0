use Rattle.depth.proofs.Stepping.{before-more, within-first, within-more, found-end, found-closed, none-left}
use Rattle.depth.proofs.search.next_run.Goals as goal

pub loop-next-init : goal.loop-next-init
loop-next-init c = within-first _ _ _ _ c.requires _ c.loop-first.invariant c.loop-first-test.true c.if-depth-first.true

pub loop-next-preserved : goal.loop-next-preserved
loop-next-preserved c = within-more _ _ _ _ c.requires _ _ c.loop-next.invariant c.if-hi-next.false c.if-ceiling-depth.false

pub returns-then-hi-next : goal.returns-then-hi-next
returns-then-hi-next c = found-end _ _ _ _ c.requires _ _ c.loop-next.invariant c.if-hi-next.true

pub returns-then-ceiling-depth : goal.returns-then-ceiling-depth
returns-then-ceiling-depth c = found-closed _ _ _ _ c.requires _ _ c.loop-next.invariant c.if-hi-next.false c.if-ceiling-depth.true

pub loop-first-preserved : goal.loop-first-preserved
loop-first-preserved c = before-more _ _ _ _ c.requires _ c.loop-first.invariant c.loop-first-test.true c.if-depth-first.false

pub returns : goal.returns
returns c = none-left _ _ _ _ _ c.loop-first.invariant c.loop-first-test.false
