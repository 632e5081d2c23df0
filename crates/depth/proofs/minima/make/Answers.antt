-- A row with buckets is one group; one without has no minima.
use Rattle.std.proofs.Common.{◌∙◌}
use Rattle.depth.proofs.Groups.{nonzero, is-zero, room-of-some, summary-of-some, summary-of-none}
use Rattle.depth.proofs.minima.make.Goals as goal

pub make_group-requires : goal.make_group-requires
make_group-requires c = let some = nonzero _ _ c.is_empty.ensures c.if-not-is_empty.true in (_, c.requires ∙ room-of-some _ some)

pub returns-then-not-is_empty : goal.returns-then-not-is_empty
returns-then-not-is_empty c =
    let some = nonzero _ _ c.is_empty.ensures c.if-not-is_empty.true in
    c.make_group.ensures _ (c.requires ∙ room-of-some _ some) ∙ summary-of-some _ some

pub returns-else-not-is_empty : goal.returns-else-not-is_empty
returns-else-not-is_empty c = summary-of-none _ _ c.requires (is-zero _ _ c.is_empty.ensures c.if-not-is_empty.false)
