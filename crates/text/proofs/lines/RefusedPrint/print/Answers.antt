use Rattle.rules.specs.Lines.{line-bytes}
use Rattle.text.proofs.Laws.{then}
use Rattle.text.proofs.lines.RefusedPrint.print.Goals as goal

pub returns : goal.returns
unfolding line-bytes
returns c = then (then c.text.ensures c.number.ensures) c.byte.ensures
