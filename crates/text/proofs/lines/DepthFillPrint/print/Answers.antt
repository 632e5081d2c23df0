use Rattle.rules.specs.Lines.{line-bytes}
use Rattle.text.proofs.Laws.{then}
use Rattle.text.proofs.lines.DepthFillPrint.print.Goals as goal

pub returns : goal.returns
unfolding line-bytes
returns c = then (then c.byte.ensures (then c.number.ensures (then c.number-2.ensures c.number-3.ensures))) c.byte-2.ensures
