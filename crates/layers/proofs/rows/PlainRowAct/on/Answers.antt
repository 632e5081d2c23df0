use Rattle.row.specs.Row.{held}
use Rattle.span.specs.Spans.{tiles}
use Rattle.layers.proofs.RowsLaws.{plain-grows, command_asks}
use Rattle.layers.proofs.rows.PlainRowAct.on.Goals as goal

pub push_paint-requires : goal.push_paint-requires
push_paint-requires c = (c.requires.0.0, command_asks _ _ c.requires.0.1 c.ensure_row_layers.ensures.row c.requires.1)

pub returns-clause-grown : goal.returns-clause-grown
returns-clause-grown c =
    let p = c.args.self in
    rw (c.push_paint.ensures.row, c.ensure_row_layers.ensures.row) (plain-grows p.layers p.attrs_idx (tiles p.span) (held c.args.row.now) c.requires.0.1 c.requires.1)
