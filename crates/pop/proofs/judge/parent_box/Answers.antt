use Rattle.pop.proofs.Opening.{parent-none, parent-some}
use Rattle.pop.proofs.judge.parent_box.Goals as goal

pub returns-then-open-eq1 : goal.returns-then-open-eq1
returns-then-open-eq1 c = parent-none _ _ _ c.if-open-eq1.true _ c.whole.ensures

pub returns : goal.returns
returns c = parent-some _ _ _ c.if-open-eq1.false c.requires.some _ c.box_at.ensures
