use Rattle.std.proofs.Common.{rules, arith, length, ◌∙◌}
use Rattle.screen.specs.Lent.{whole}
use Rattle.file.specs.Held.{held}
use Rattle.file.specs.Records.{layer-of}
use Rattle.walk.proofs.Calls.{filter_step}
use Rattle.walk.proofs.steps.fill_filter.Goals as goal

pub to_filter-requires : goal.to_filter-requires
to_filter-requires c = let few = c.paint_count.ensures.few in omega arith

pub returns-clause-filtered : goal.returns-clause-filtered
returns-clause-filtered c =
    let y = layer-of c.args.layer in
    let e =
    filter_step (whole c.args.screen.now c.args.lent.now) _ y.filter (length (held c.args.file.now).paints) y.panel _
    (c.filter_fill.ensures.filtered ∙ rw (c.to_filter.ensures, c.paint_count.ensures.same)) in
    search (rules, e)
