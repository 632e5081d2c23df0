-- The call's own equation, carried over to the words.
use Rattle.host.proofs.HostResults.{skip_roomed}
use Rattle.host.proofs.painting.coarse_can_skip.Goals as goal

pub returns : goal.returns
returns c =
    skip_roomed _ _ _ _ _ _ c.can_skip-skip.result _ _ _ c.in-Some.ensures c.can_skip-skip.ensures c.put_yes.ensures
