-- The call's own equation, carried over to the words.
use Rattle.std.proofs.Common.{rules}
use Rattle.host.proofs.Built.{filter_built}
use Rattle.host.proofs.layer.judged_filter.Goals as goal

pub returns-clause-filtered : goal.returns-clause-filtered
returns-clause-filtered c =
    let e = filter_built _ _ _ _ _ _ _ c.in-Some.ensures c.leave.ensures.0 c.leave.ensures.1 _ _ _ _ _ _ _ c.filter_fill-done.ensures.filtered in
    let p = c.given-layer.ensures in
    search (rules, e, p)
