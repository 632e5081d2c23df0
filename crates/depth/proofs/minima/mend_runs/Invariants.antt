-- So far the first n runs are mended.
use Rattle.std.proofs.Common.{◌≡◌, List, ℕ, ◌++◌, ◌+◌, ◌*◌, ◌-◌, ◌<◌, length, get_or, drop}
use Rattle.rules.specs.Spans.{Span}
use Rattle.rules.specs.Minima.{half, mended-runs}
use Rattle.depth.specs.Listing.{numbers}
use Rattle.depth.specs.Minima.{Holds}
use Rattle.depth.proofs.minima.mend_runs.Given as goal

abbrev pub invariant-loop-n : goal.invariant-loop-n
invariant-loop-n l =
    (k : ℕ) (ws : List ℕ) (rs : List Span) (rest : List ℕ) → (0 < l.count → length l.initial.minima ≡ half k) → l.list ≡ numbers rs ++ rest → l.count ≡ length rs
    → ((n : ℕ) → n < l.count → Holds ws (get_or l.list (n * 2) 0) (get_or l.list (n * 2 + 1) 0) l.id)
    → mended-runs k l.minima ws (drop l.n rs) ≡ mended-runs k l.initial.minima ws rs

abbrev pub decreases-loop-n : goal.decreases-loop-n
decreases-loop-n l = l.count - l.n
