use Rattle.std.proofs.Common.{rules, ◌∙◌}
use Rattle.screen.specs.Lent.{whole}
use Rattle.file.specs.Held.{held}
use Rattle.walk.proofs.Calls.{pop_step}
use Rattle.walk.proofs.Lists.{same_popped}
use Rattle.walk.proofs.steps.pop_at.Goals as goal

pub returns-clause-popped : goal.returns-clause-popped
returns-clause-popped c =
    let e =
    pop_step (whole c.args.screen.now c.args.lent.now) _ (held c.args.file.now).segments _ _
    (c.pop_known.ensures.popped ∙ same_popped (held c.args.file.now) _ _ _ c.segments.ensures.read c.segments.ensures.long) in
    search (rules, e)

pub pop_known-requires : goal.pop_known-requires
pop_known-requires c =
    let y = c.requires.ready in
    c.clip_segments.ensures (held c.args.file.now) _ y.good y.order c.requires.layer c.segments.ensures.read
