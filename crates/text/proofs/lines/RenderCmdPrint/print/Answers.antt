use Rattle.rules.specs.Lines.{line-bytes}
use Rattle.text.proofs.Laws.{then}
use Rattle.text.proofs.lines.RenderCmdPrint.print.Goals as goal

pub returns : goal.returns
unfolding line-bytes
returns c = then c.command.ensures c.byte.ensures
