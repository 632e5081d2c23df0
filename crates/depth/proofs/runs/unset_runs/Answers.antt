use Rattle.std.proofs.Common.{◌∙◌}
use Rattle.depth.proofs.Answering.{unset-same}
use Rattle.depth.proofs.runs.unset_runs.Goals as goal

pub returns : goal.returns
returns c = c.visible_runs.ensures ∙ rw unset-same
