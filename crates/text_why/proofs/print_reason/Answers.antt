use Rattle.rules_reason.specs.Answers.{reason-bytes}
use Rattle.text.proofs.Laws.{then}
use Rattle.text_why.proofs.print_reason.Goals as goal

pub returns : goal.returns
unfolding reason-bytes
returns c = then c.print_words.ensures c.byte.ensures
