-- Where a run ends there is room for all of it.
use Rattle.fill.proofs.Rooms.{starts, stays, turns, all-roomy}
use Rattle.fill.proofs.judge.has_rooms.Goals as goal
use Rattle.fill.proofs.judge.has_rooms.Goals.{then-here-row+else-not-has_room_for, else-here-row}

pub loop-i-init : goal.loop-i-init
loop-i-init c = starts c.requires.judged c.requires.rows c.requires.range c.requires.list

pub loop-i-preserved : goal.loop-i-preserved
loop-i-preserved c =
    let v = c.loop-i.invariant in
    let l = c.loop-i-test.true in
    elim c.if-here-row.branch [
      | then-here-row+else-not-has_room_for w ↦
          rw (w.row-is, w.from-is) (turns c.requires.judged v l w.if-here-row.true (w.has_room_for.ensures w.if-not-has_room_for.false))
      | else-here-row w ↦ rw (w.row-is, w.from-is) (stays c.requires.judged v l w.if-here-row.false)
    ]

pub returns : goal.returns
returns c = λ e. all-roomy c.requires.judged c.loop-i.invariant c.loop-i-test.false (c.has_room_for-2.ensures e)
