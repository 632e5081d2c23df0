use Rattle.std.proofs.Common.{rules, add-one}
use Rattle.depth.specs.Spans.{with-spans}
use Rattle.depth.proofs.forms.runs.write_runs.Goals as goal

pub loop-n-init : goal.loop-n-init
unfolding with-spans
loop-n-init c = search rules

pub loop-n-preserved : goal.loop-n-preserved
unfolding with-spans
loop-n-preserved c = search (rules, add-one)
