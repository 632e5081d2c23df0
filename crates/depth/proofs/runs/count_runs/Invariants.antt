-- Invariant: the runs counted and those from `from` on are all the runs.
use Rattle.std.proofs.Common.{◌≡◌, ◌≤◌, ◌-◌, ◌+◌, length}
use Rattle.rules.specs.Spans.{span}
use Rattle.rules.specs.Depth.{is-visible, runs-in}
use Rattle.depth.proofs.runs.count_runs.Given as goal

abbrev pub invariant-loop-run : goal.invariant-loop-run
invariant-loop-run l =
    (l.count ≤ l.from) × (l.count + length (runs-in (is-visible l.ceiling) l.depth (span l.from l.hi)) ≡ length (runs-in (is-visible l.ceiling) l.depth (span l.lo l.hi)))

abbrev pub decreases-loop-run : goal.decreases-loop-run
decreases-loop-run l = l.hi - l.from
