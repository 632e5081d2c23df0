use Rattle.span.specs.Spans.{tiles}
use Rattle.paint.proofs.Clear.{whole_one}
use Rattle.paint.proofs.shown.runs.list_whole.Goals as goal

pub returns : goal.returns
returns c = whole_one (tiles c.args.span) c.if-span.false c.args.list.now c.if-list-lt2.false
