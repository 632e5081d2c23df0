-- So far the first n runs are written.
use Rattle.std.proofs.Common.{◌≡◌, ◌-◌, ◌≤◌}
use Rattle.depth.specs.Spans.{with-spans}
use Rattle.depth.proofs.forms.runs.write_runs.Given as goal

abbrev pub invariant-loop-n : goal.invariant-loop-n
invariant-loop-n l = record { within : l.n ≤ l.count; written : l.list ≡ with-spans l.words l.n l.initial.list }

abbrev pub decreases-loop-n : goal.decreases-loop-n
decreases-loop-n l = l.count - l.n
