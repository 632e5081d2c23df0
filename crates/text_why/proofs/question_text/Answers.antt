use Rattle.std.proofs.Common.{arith}
use Rattle.text_why.proofs.Lines.{question-few}
use Rattle.text_why.proofs.question_text.Goals as goal

pub print_first-requires-clause-within : goal.print_first-requires-clause-within
print_first-requires-clause-within c = omega (arith, question-few c.args.i)
