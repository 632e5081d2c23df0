use Rattle.rect.proofs.Snapping.{too-far-right, too-far-down}
use Rattle.rect.proofs.Rect.viewport_in.Goals as goal

pub returns-in-Snapping-2 : goal.returns-in-Snapping-2
returns-in-Snapping-2 c = rw c.in-Snapping-2.is (too-far-down _ c.if-self-le-SCENE_END-2.false)

pub returns-in-Snapping-2-2 : goal.returns-in-Snapping-2-2
returns-in-Snapping-2-2 c = rw c.in-Snapping-2.is (too-far-right _ c.if-self-le-SCENE_END.false)
