use Rattle.text.proofs.Laws.{then}
use Rattle.text.proofs.Out.fill.Goals as goal

pub returns : goal.returns
returns c = then c.number.ensures (then c.number-2.ensures (then c.alpha.ensures c.number-3.ensures))
