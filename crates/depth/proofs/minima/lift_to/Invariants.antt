-- So far the groups up to the one at `at` are worked out again.
use Rattle.std.proofs.Common.{◌≡◌, ◌<◌, ℕ, length}
use Rattle.rules.specs.Minima.{size, half}
use Rattle.depth.specs.Minima.{leaf-place}
use Rattle.depth.proofs.Lifting.{Lifting}
use Rattle.depth.proofs.minima.lift_to.Given as goal

abbrev pub invariant-loop-size : goal.invariant-loop-size
invariant-loop-size l =
    (k : ℕ) → length l.initial.minima ≡ half k → l.bucket < size k → l.place ≡ leaf-place k l.bucket
    → Lifting k l.initial.minima l.bucket l.at l.number l.size l.least l.minima

abbrev pub decreases-loop-size : goal.decreases-loop-size
decreases-loop-size l = l.at
