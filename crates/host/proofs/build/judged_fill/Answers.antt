-- The call's own equation, carried over to the words.
use Rattle.std.proofs.Common.{rules}
use Rattle.host.proofs.Built.{fill_built}
use Rattle.host.proofs.build.judged_fill.Goals as goal

pub returns-clause-filled : goal.returns-clause-filled
returns-clause-filled c =
    let e = fill_built _ _ _ _ _ _ c.in-Some.ensures c.leave.ensures.0 c.leave.ensures.1 _ _ _ _ _ _ _ c.fill-done.ensures.filled in
    search (rules, e)
