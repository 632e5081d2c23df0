-- The call's own equation, carried over to the words.
use Rattle.host.proofs.Built.{begin_built}
use Rattle.host.proofs.painting.coarse_begin_painting.Goals as goal

pub returns-clause-begun : goal.returns-clause-begun
returns-clause-begun c = begin_built _ _ _ _ _ _ c.in-Some.ensures c.leave.ensures.0 c.leave.ensures.1 _ _ _ _ c.begin_painting-done.ensures.begun
