-- Invariant: the buckets before `at` are written, those from it on are as they were.
use Rattle.std.proofs.Common.{◌-◌}
use Rattle.depth.proofs.Marking.{Marked}
use Rattle.compact.proofs.newest.write_unset.Given as goal

abbrev pub invariant-loop-at : goal.invariant-loop-at
invariant-loop-at l = Marked l.id l.hi l.initial.ids l.initial.at l.at l.ids

abbrev pub decreases-loop-at : goal.decreases-loop-at
decreases-loop-at l = l.hi - l.at
