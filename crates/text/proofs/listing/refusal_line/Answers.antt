use Rattle.rules.specs.Lines.{refused}
use Rattle.text.proofs.Lengths.{line-few}
use Rattle.text.proofs.listing.refusal_line.Goals as goal

pub try_print_first-requires-clause-within : goal.try_print_first-requires-clause-within
try_print_first-requires-clause-within c = line-few (refused c.args.n)
