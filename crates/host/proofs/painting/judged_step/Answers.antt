-- The call's own equation, carried over to the words.
use Rattle.std.proofs.Common.{rules}
use Rattle.host.proofs.HostResults.{step_roomed}
use Rattle.host.proofs.painting.judged_step.Goals as goal

pub returns : goal.returns
returns c =
    let e = step_roomed _ _ _ _ _ _ _ _ _ _ _ _ c.in-Some.ensures c.paint_step-done.ensures.step c.put_step.ensures in
    search (rules, e)
