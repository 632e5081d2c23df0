-- The call's own equation, carried over to the words.
use Rattle.host.proofs.HostResults.{unset_roomed}
use Rattle.host.proofs.painting.coarse_unset_runs.Goals as goal

pub returns : goal.returns
returns c =
    unset_roomed _ _ _ _ _ c.unset_runs-runs.result _ _ _ _ _ c.in-Some.ensures c.unset_runs-runs.ensures c.put_runs.ensures
