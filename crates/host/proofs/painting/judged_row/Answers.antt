-- The call's own equation, carried over to the words.
use Rattle.std.proofs.Common.{rules}
use Rattle.host.proofs.HostResults.{row_roomed}
use Rattle.host.proofs.painting.judged_row.Goals as goal

pub returns : goal.returns
returns c =
    let e = row_roomed _ _ _ _ _ _ _ _ _ _ _ _ c.in-Some.ensures c.paint_row-done.ensures.painted c.put_step.ensures in
    search (rules, e)
