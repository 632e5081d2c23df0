-- Each turn copies what is there behind itself, or as much of it as has room.
use Rattle.screen.proofs.Copies.{copied-first, copied-next, copied-last, done-some, fewer-left, some-copies}
use Rattle.screen.proofs.lent.repeat.Goals as goal

pub loop-done-init : goal.loop-done-init
loop-done-init c = λ n some long. copied-first n _ _ some long

pub loop-done-smaller : goal.loop-done-smaller
loop-done-smaller c =
    let q = c.requires in
    let some = done-some q.0 c.args.room _ q.1 q.3 _ _ (c.loop-done.invariant q.0 q.1 q.3) q.2 in
    let s = c.split_at_mut-made.ensures in
    fewer-left _ _ _ _ _ _ s.front_len s.back_len c.min-more.ensures c.copy_from_slice.ensures.after some c.loop-done-test.true

pub loop-done-preserved : goal.loop-done-preserved
loop-done-preserved c = λ n some long.
    let s = c.split_at_mut-made.ensures in
    copied-next n c.args.room _ some long _ _ (c.loop-done.invariant n some long) _ _ _ _ s.value s.front_len c.min-more.ensures c.copy_from_slice.ensures.after

pub returns : goal.returns
returns c = λ n long.
    let q = c.requires in
    let some = some-copies n q.0 c.args.room _ q.1 q.2 q.3 long in
    copied-last n c.args.room _ some long _ _ (c.loop-done.invariant n some long) q.2 (rw c.loop-done.auto.minima at c.loop-done-test.false)
