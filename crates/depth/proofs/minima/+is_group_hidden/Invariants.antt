-- each half has fewer words
use Rattle.std.proofs.Common.{length}
use Rattle.depth.proofs.minima.+is_group_hidden.Given as goal

abbrev pub decreases-is_group_hidden : goal.decreases-is_group_hidden
decreases-is_group_hidden l = length l.group.now
