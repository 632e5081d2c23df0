use Rattle.text.proofs.Laws.{then}
use Rattle.text.proofs.Out.recorded.Goals as goal

pub returns-in-Some : goal.returns-in-Some
returns-in-Some c = rw c.in-Some.is (then c.number.ensures c.number-in-Some.ensures)
