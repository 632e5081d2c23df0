-- The question about the file that is told.
use Rattle.host.proofs.HostAsked.{why_told}
use Rattle.host.proofs.reasons.coarse_why.Goals as goal

pub returns-in-Ok-clause-explained : goal.returns-in-Ok-clause-explained
returns-in-Ok-clause-explained c = why_told _ _ _ c.in-Ok.ensures _ _ _ _ _ _ _ c.why_asked.ensures.explained
