use Rattle.rules.specs.Lines.{line-bytes}
use Rattle.text.proofs.Laws.{then}
use Rattle.text.proofs.lines.HeaderPrint.print.Goals as goal

pub returns : goal.returns
unfolding line-bytes
returns c =
    then (then c.text.ensures (then c.number.ensures (then c.text-2.ensures (then c.number-2.ensures (then c.text-3.ensures c.number-3.ensures)))))
    c.byte.ensures
