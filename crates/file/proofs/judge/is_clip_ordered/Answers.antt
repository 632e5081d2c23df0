use Rattle.std.proofs.Common.{eq-eqb, ne_eqb}
use Rattle.file.specs.Judging.{clip_range, clip_ordered}
use Rattle.file.proofs.judge.is_clip_ordered.Goals as goal

pub is_ordered-requires-clause-range : goal.is_ordered-requires-clause-range
unfolding clip_range
is_ordered-requires-clause-range c = rw (eq-eqb _ _ c.if-layer-eq1.true) at c.requires.range

pub returns-then-layer-eq1 : goal.returns-then-layer-eq1
unfolding clip_ordered
returns-then-layer-eq1 c = rw (eq-eqb _ _ c.if-layer-eq1.true) c.is_ordered.ensures

pub returns-else-layer-eq1 : goal.returns-else-layer-eq1
unfolding clip_ordered
returns-else-layer-eq1 c = rw (ne_eqb _ _ c.if-layer-eq1.false)
