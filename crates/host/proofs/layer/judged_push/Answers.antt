-- The call's own equation, carried over to the words.
use Rattle.std.proofs.Common.{rules}
use Rattle.host.proofs.Built.{push_built}
use Rattle.host.proofs.layer.judged_push.Goals as goal

pub returns-clause-pushed : goal.returns-clause-pushed
returns-clause-pushed c =
    let e = push_built _ _ _ _ _ _ _ c.in-Some.ensures c.leave.ensures.0 c.leave.ensures.1 _ _ _ _ _ _ _ c.push_layer-done.ensures.pushed in
    let p = c.given-given.ensures in
    search (rules, e, p)
