-- each half has fewer words
use Rattle.std.proofs.Common.{length}
use Rattle.depth.proofs.minima.+make_group.Given as goal

abbrev pub decreases-make_group : goal.decreases-make_group
decreases-make_group l = length l.group.now
