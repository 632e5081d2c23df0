use Rattle.text.proofs.Laws.{then}
use Rattle.text_why.proofs.print_panel.Goals as goal

pub returns : goal.returns
returns c = then c.text.ensures c.number.ensures
