-- The call's own equation, carried over to the words.
use Rattle.std.proofs.Common.{rules}
use Rattle.host.proofs.Built.{pop_built}
use Rattle.host.proofs.layer.coarse_pop_layer.Goals as goal

pub returns-clause-popped : goal.returns-clause-popped
returns-clause-popped c =
    let e = pop_built _ _ _ _ _ _ c.in-Some.ensures c.leave.ensures.0 c.leave.ensures.1 _ _ _ c.pop_layer-done.ensures.popped in
    search (rules, e)
