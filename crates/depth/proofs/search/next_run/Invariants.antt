-- Invariant: the buckets before `first` are closed; in the inner loop those from it to `next` are open.
use Rattle.std.proofs.Common.{◌-◌}
use Rattle.depth.proofs.Stepping.{Before, Within}
use Rattle.depth.proofs.search.next_run.Given as goal

abbrev pub invariant-loop-next : goal.invariant-loop-next
invariant-loop-next l = Within l.depth l.hi l.ceiling l.from l.first l.next

abbrev pub decreases-loop-next : goal.decreases-loop-next
decreases-loop-next l = l.hi - l.next

abbrev pub invariant-loop-first : goal.invariant-loop-first
invariant-loop-first l = Before l.depth l.hi l.ceiling l.from l.first

abbrev pub decreases-loop-first : goal.decreases-loop-first
decreases-loop-first l = l.hi - l.first
