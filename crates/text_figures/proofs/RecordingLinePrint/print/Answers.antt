use Rattle.rules_figures.specs.Lines.{recording-line}
use Rattle.text.proofs.Laws.{then}
use Rattle.text_figures.proofs.RecordingLinePrint.print.Goals as goal

pub returns : goal.returns
unfolding recording-line
returns c = then c.print_named.ensures c.print_figures.ensures
