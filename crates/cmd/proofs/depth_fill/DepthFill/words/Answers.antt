use Rattle.rules.specs.Commands.{depth-words}
use Rattle.cmd.proofs.depth_fill.DepthFill.words.Goals as goal

pub returns : goal.returns
unfolding depth-words
returns c = rw c.of.ensures
