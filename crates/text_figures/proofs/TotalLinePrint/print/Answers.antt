use Rattle.rules_figures.specs.Lines.{total-line}
use Rattle.text.proofs.Laws.{then}
use Rattle.text_figures.proofs.TotalLinePrint.print.Goals as goal

pub returns : goal.returns
unfolding total-line
returns c = then c.text.ensures c.print_figures.ensures
