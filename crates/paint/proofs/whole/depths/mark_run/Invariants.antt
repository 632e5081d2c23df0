-- So far the buckets from the first on are unset in the words as they were, and written: of any words that those at the loop's beginning came from.
use Rattle.std.proofs.Common.{List, ℕ, ◌-◌, ◌≤◌, length}
use Rattle.paint.proofs.DepthFills.{Begun}
use Rattle.paint.proofs.whole.depths.mark_run.Given as goal

abbrev pub invariant-loop-b : goal.invariant-loop-b
invariant-loop-b l =
    (D : List ℕ) → l.hi ≤ length D → Begun D l.id l.hi l.first l.initial.b l.initial.depth → Begun D l.id l.hi l.first l.b l.depth

abbrev pub decreases-loop-b : goal.decreases-loop-b
decreases-loop-b l = l.hi - l.b
