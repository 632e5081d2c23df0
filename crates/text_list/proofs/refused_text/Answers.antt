use Rattle.std.proofs.Common.{arith}
use Rattle.rules.specs.Lines.{refused}
use Rattle.text.proofs.Lengths.{line-few}
use Rattle.text_list.proofs.refused_text.Goals as goal

pub print_first-requires-clause-within : goal.print_first-requires-clause-within
print_first-requires-clause-within c = omega (arith, line-few (refused c.number.result))
