-- The words, the space, the number.
use Rattle.text.proofs.Laws.{then}
use Rattle.text_figures.proofs.print_named.Goals as goal

pub returns : goal.returns
returns c = then c.text.ensures (then c.byte.ensures c.digits.ensures)
