use Rattle.text.proofs.Laws.{then}
use Rattle.text.proofs.details.print_heading.Goals as goal

pub returns : goal.returns
returns c = then (then c.text.ensures c.number.ensures) c.byte.ensures
