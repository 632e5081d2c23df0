-- Where the one look is sure, a push of what is lent well is the call's.
use Rattle.std.proofs.Common.{rules}
use Rattle.host.proofs.Built.{push_built}
use Rattle.host.proofs.Left.{push-leaves}
use Rattle.host.proofs.layer.coarse_push_layer.Goals as goal

pub push_judged-done-requires : goal.push_judged-done-requires
push_judged-done-requires c =
    let q = c.is_push_sure.ensures c.if-not-is_push_sure.false in rw c.screen_at-screen.ensures q.0

pub leave_push-requires : goal.leave_push-requires
leave_push-requires c =
    let q = c.is_push_sure.ensures c.if-not-is_push_sure.false in
    push-leaves _ _ q.1 _ (rw c.screen_at-screen.ensures at c.push_judged-done.ensures.left)

pub returns-clause-pushed : goal.returns-clause-pushed
returns-clause-pushed c =
    let q = c.is_push_sure.ensures c.if-not-is_push_sure.false in
    let d = rw c.screen_at-screen.ensures at c.push_judged-done.ensures.pushed in
    let e = push_built _ _ _ _ _ _ _ q.1 c.leave_push.ensures.0 c.leave_push.ensures.1 _ _ _ _ _ _ _ d in
    let p = c.given-given.ensures in
    search (rules, e, p)
