-- .. and so is that of one segment, where it is done.
use Rattle.std.proofs.Common.{rules, refl}
use Rattle.host.proofs.Built.{fill_built}
use Rattle.host.proofs.Left.{fill-leaves}
use Rattle.host.proofs.build.single_fill.Goals as goal

pub fill_single-requires : goal.fill_single-requires
fill_single-requires c = record { judged = rw c.screen_at-screen.ensures c.requires.sure.0; one = rw c.asked-draw.ensures c.requires.one }

pub leave_fill-requires : goal.leave_fill-requires
leave_fill-requires c = fill-leaves _ _ c.requires.sure.1 _ (rw c.screen_at-screen.ensures at c.fill_single.ensures.left)

pub returns-clause-filled : goal.returns-clause-filled
returns-clause-filled c =
    let d = rw c.screen_at-screen.ensures at c.fill_single.ensures.done c.if-not-fill_single.false in
    let e = fill_built _ _ _ _ 0 0 c.requires.sure.1 refl c.leave_fill.ensures.1 _ _ _ _ _ _ _ d in
    search (rules, e)
