-- So far the words before `done` are copies of the first `room`.
use Rattle.std.proofs.Common.{◌≡◌, ℕ, ◌<◌, ◌*◌, ◌-◌, length}
use Rattle.screen.proofs.Copies.{Copied}
use Rattle.screen.proofs.lent.repeat.Given as goal

abbrev pub invariant-loop-done : goal.invariant-loop-done
invariant-loop-done l = (n : ℕ) → 0 < n → length l.initial.minima ≡ n * l.room → Copied n l.room l.initial.minima l.done l.minima

abbrev pub decreases-loop-done : goal.decreases-loop-done
decreases-loop-done l = length l.minima - l.done
