-- A number less 1 is below the most: it is not 0, and at most the most.
use Rattle.std.proofs.Common.{arith}
use Rattle.std.proofs.lemmas.Bool.Decides.{nat_tests}
use Rattle.host.proofs.sure.is_counts.Goals as goal

pub returns : goal.returns
returns c all = record { c = grind (arith, nat_tests); d = grind (arith, nat_tests); counts = grind (arith, nat_tests) }
