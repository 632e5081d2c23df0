-- The call's own equation, carried over to the words.
use Rattle.std.proofs.Common.{rules}
use Rattle.host.proofs.HostResults.{own_roomed}
use Rattle.host.proofs.painting.coarse_paint_own_row.Goals as goal

pub returns-clause-row : goal.returns-clause-row
returns-clause-row c =
    let e = own_roomed _ _ _ _ _ _ _ _ _ _ _ c.in-Some.ensures c.paint_own_row-done.ensures.painted c.put_step.ensures in
    search (rules, e)
