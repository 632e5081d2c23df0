use Rattle.std.proofs.Common.{arith}
use Rattle.tally.specs.Counts.{figures-of}
use Rattle.text_figures.proofs.Long.{recording-few}
use Rattle.text_figures.proofs.recording_text.Goals as goal

pub print_first-requires-clause-within : goal.print_first-requires-clause-within
print_first-requires-clause-within c = omega (arith, recording-few c.args.i (figures-of c.args.figures), c.requires)
