-- The call's own equation, carried over to the words.
use Rattle.host.proofs.HostResults.{visible_roomed}
use Rattle.host.proofs.painting.coarse_visible_runs.Goals as goal

pub returns : goal.returns
returns c =
    visible_roomed _ _ _ _ _ _ c.visible_runs-runs.result _ _ _ _ _ c.in-Some.ensures c.visible_runs-runs.ensures c.put_runs.ensures
