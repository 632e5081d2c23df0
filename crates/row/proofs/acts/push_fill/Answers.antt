-- No layer is open for a split draw, which puts one command or its parts; any other first gets the buffers that the row lacks, then one command.
use Rattle.span.specs.Spans.{tiles}
use Rattle.row.specs.Row.{held}
use Rattle.row.proofs.ActsLaws.{one_asks, plain-unsplit}
use Rattle.row.proofs.acts.push_fill.Goals as goal

pub push_paint-requires-2 : goal.push_paint-requires-2
push_paint-requires-2 g c = (c.requires.short, one_asks _ _ _ _ (tiles c.args.stretch.tiles) _ c.args.stretch.alpha (held c.args.row.now) c.ensure_row_layers.ensures.row (rw c.if-this-ne0.false (plain-unsplit c.args.stretch.alpha)) c.requires.layers c.requires.room)
