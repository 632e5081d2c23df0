use Rattle.std.proofs.Common.{◌-◌, ◌≤◌}
use Rattle.text_programs.specs.Streams.{Skips}
use Rattle.text_programs.proofs.stream.skip.Given as goal

abbrev pub invariant-loop-left : goal.invariant-loop-left
invariant-loop-left g l = (l.left ≤ l.n) × Skips (l.n - l.left) (g.R.Read.remaining l.initial.input) (g.R.Read.remaining l.input)

abbrev pub decreases-loop-left : goal.decreases-loop-left
decreases-loop-left g l = l.left
