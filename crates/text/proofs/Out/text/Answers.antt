use Rattle.text.proofs.Laws.{nothing, one_more, all-taken}
use Rattle.text.proofs.Out.text.Goals as goal

pub loop-b-init : goal.loop-b-init
loop-b-init c = nothing _

pub loop-b-preserved : goal.loop-b-preserved
loop-b-preserved c = one_more _ _ c.loop-b.invariant c.loop-b-test.true c.byte.ensures

pub returns : goal.returns
returns c = all-taken _ _ c.loop-b.invariant c.loop-b-test.false
