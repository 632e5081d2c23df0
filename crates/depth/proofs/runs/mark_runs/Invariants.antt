-- Invariant: n runs of the words as they were stand in the list, those from `at` on are still to come; the buckets before `at` are written, those from it on are as they were, and `found`
-- is what bucket `at` holds. In the inner loop: the run from `at` has come to `next`, and is written to there.
use Rattle.std.proofs.Common.{List, ℕ, ◌≤◌, ◌-◌, length}
use Rattle.rules.specs.Spans.{Span}
use Rattle.rules.specs.Depth.{is-visible}
use Rattle.depth.proofs.Searching.{Carried, Reached}
use Rattle.depth.proofs.Filling.{Filled}
use Rattle.depth.proofs.Marking.{Marked}
use Rattle.depth.proofs.runs.mark_runs.Given as goal

abbrev pub as-it-is : Span → Span
as-it-is r = r

-- in the words bs₀ the run from `at` has come to `next`, and it is written to there
abbrev pub Written : ℕ → ℕ → ℕ → ℕ → List ℕ → ℕ → List ℕ → Type 0
Written lo hi id at bs₀ next bs = Reached (is-visible 0) bs₀ hi at next × Marked id hi bs₀ lo next bs

-- the inner loop begins in words that are written to already: its invariant is of any words that they came from
abbrev pub invariant-loop-next : goal.invariant-loop-next
invariant-loop-next l =
    (bs₀ : List ℕ) → l.hi ≤ length bs₀ → Written l.lo l.hi l.draw_id l.at bs₀ l.initial.next l.initial.depth → Written l.lo l.hi l.draw_id l.at bs₀ l.next l.depth

abbrev pub decreases-loop-next : goal.decreases-loop-next
decreases-loop-next l = l.hi - l.next

abbrev pub invariant-loop-at : goal.invariant-loop-at
invariant-loop-at l =
    Filled (is-visible 0) l.initial.depth l.lo l.hi as-it-is l.initial.list l.at l.n l.list × Marked l.draw_id l.hi l.initial.depth l.lo l.at l.depth × Carried l.initial.depth l.hi l.at l.found

abbrev pub decreases-loop-at : goal.decreases-loop-at
decreases-loop-at l = l.hi - l.at
