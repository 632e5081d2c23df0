use Rattle.rules_reason.specs.Answers.{question-line}
use Rattle.text.proofs.Laws.{then}
use Rattle.text_why.proofs.QuestionLinePrint.print.Goals as goal

pub returns : goal.returns
unfolding question-line
returns c = then c.text.ensures (then c.digits.ensures c.byte.ensures)
