use Rattle.std.proofs.Common.{◌∙◌}
use Rattle.compact.proofs.Hiding.{ok-hidden}
use Rattle.compact.proofs.hidden.is_hidden.Goals as goal

pub returns : goal.returns
returns c =
    let (order, end) = c.requires in
    c.is_ok.ensures.value ∙ ok-hidden c.visible_runs.result _ _ _ _ _ order end c.visible_runs.ensures
