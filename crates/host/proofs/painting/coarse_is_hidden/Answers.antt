-- The call's own equation, carried over to the words.
use Rattle.host.proofs.HostResults.{hidden_roomed}
use Rattle.host.proofs.painting.coarse_is_hidden.Goals as goal

pub returns : goal.returns
returns c =
    hidden_roomed _ _ _ _ _ _ c.is_hidden.result _ _ _ c.in-Some.ensures c.is_hidden.ensures c.put_yes.ensures
