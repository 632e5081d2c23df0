-- Which attribute, then the reason that the lines give it.
use Rattle.rules_reason.specs.Answers.{asked-bytes}
use Rattle.text.proofs.Laws.{then}
use Rattle.text_why.proofs.print_line.Goals as goal

pub returns : goal.returns
unfolding asked-bytes
returns c = then (then c.print_kind.ensures (then c.number.ensures c.text.ensures)) (rw c.reason_of.ensures at c.print_reason.ensures)
