use Rattle.std.proofs.Common.{arith}
use Rattle.text_dump.proofs.Files.{line-few}
use Rattle.text_dump.proofs.put_recording.Goals as goal

pub print_first-requires-clause-within : goal.print_first-requires-clause-within
print_first-requires-clause-within c = omega (arith, line-few c.args.i)

pub returns-clause-short : goal.returns-clause-short
returns-clause-short c = omega (arith, line-few c.args.i, c.print_first.ensures.value)
