use Rattle.rules_reason.specs.TileList.{list-line}
use Rattle.text.proofs.Laws.{then}
use Rattle.text_list.proofs.ListLinePrint.print.Goals as goal

pub returns : goal.returns
unfolding list-line
returns c = then c.text.ensures (then c.digits.ensures c.byte.ensures)
