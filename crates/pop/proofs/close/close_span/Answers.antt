use Rattle.std.proofs.Common.{◌-◌, ◌∙◌, None}
use Rattle.rules.specs.Plans.{close}
use Rattle.span.specs.Spans.{tiles}
use Rattle.pop.specs.Closing.{Fillable}
use Rattle.pop.proofs.Judging.{act-other, close-here, each-here}
use Rattle.pop.proofs.close.close_span.Goals as goal

pub returns-then-rows-r-clause-rows : goal.returns-then-rows-r-clause-rows
returns-then-rows-r-clause-rows c =
    act-other c.requires.whole _ _ c.requires.row c.if-rows-r.true _ (c.args.screen.layers - 1) (close (tiles c.args.span) None c.args.screen.layer_attrs)

pub on_row-requires : goal.on_row-requires
on_row-requires c = (
  _,
  record {
    arenas = c.requires.whole;
    within = c.requires.row;
    asked = c.requires.short;
    room = each-here c.requires.whole _ _ c.requires.row c.if-rows-r.false (Fillable (tiles c.args.span) None c.args.screen.layer_attrs) c.requires.room;
  },
)

pub returns-clause-rows : goal.returns-clause-rows
returns-clause-rows c =
    c.on_row.ensures _
    (record {
      arenas = c.requires.whole;
      within = c.requires.row;
      asked = c.requires.short;
      room = each-here c.requires.whole _ _ c.requires.row c.if-rows-r.false (Fillable (tiles c.args.span) None c.args.screen.layer_attrs) c.requires.room;
    })
    ∙ close-here c.requires.whole _ _ c.requires.row c.if-rows-r.false _ (c.args.screen.layers - 1) (tiles c.args.span) c.args.screen.layer_attrs
