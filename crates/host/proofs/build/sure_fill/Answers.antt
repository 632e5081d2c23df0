-- Where the one look is sure, a fill of what is lent well is the call's.
use Rattle.std.proofs.Common.{rules}
use Rattle.host.proofs.Built.{fill_built}
use Rattle.host.proofs.Left.{fill-leaves}
use Rattle.host.proofs.build.sure_fill.Goals as goal

pub fill_judged-done-requires : goal.fill_judged-done-requires
fill_judged-done-requires c = record { judged = rw c.screen_at-screen.ensures c.requires.0 }

pub leave_fill-requires : goal.leave_fill-requires
leave_fill-requires c = fill-leaves _ _ c.requires.1 _ (rw c.screen_at-screen.ensures at c.fill_judged-done.ensures.left)

pub returns-clause-filled : goal.returns-clause-filled
returns-clause-filled c =
    let d = rw c.screen_at-screen.ensures at c.fill_judged-done.ensures.filled in
    let e = fill_built _ _ _ _ _ _ c.requires.1 c.leave_fill.ensures.0 c.leave_fill.ensures.1 _ _ _ _ _ _ _ d in
    search (rules, e)
