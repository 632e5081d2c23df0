use Rattle.std.proofs.Common.{arith}
use Rattle.text_list.proofs.Told.{line-few}
use Rattle.text_list.proofs.line_text.Goals as goal

pub print_first-requires-clause-within : goal.print_first-requires-clause-within
print_first-requires-clause-within c = omega (arith, line-few c.args.i)
