use Rattle.std.proofs.Common.{arith, rules}
use Rattle.pop.proofs.Clipping.{clipping-done, good-here, room-here, clipping-on}
use Rattle.pop.proofs.Rooms.{long_after}
use Rattle.pop.proofs.close.close_list.Goals as goal

pub close_segment-requires : goal.close_segment-requires
close_segment-requires c = record { whole = c.loop-i.invariant.1.rest.whole; band = c.loop-i.invariant.1.rest.bottom; among = c.requires.among; segment = (omega arith, good-here c.loop-i.invariant.1 c.loop-i-test.true); starts = c.loop-i.invariant.1.rest.starts; room = room-here c.loop-i.invariant.1 c.loop-i-test.true }

pub loop-i-preserved : goal.loop-i-preserved
loop-i-preserved c = (
  search rules,
  clipping-on c.loop-i.invariant.1 c.loop-i-test.true _ (long_after _ _ _ c.loop-i.invariant.1.rest.whole (search rules) (search rules) (search rules))
      c.close_segment.ensures.rows,
)

pub returns : goal.returns
returns c = record { same = c.loop-i.invariant.0; rows = clipping-done c.loop-i.invariant.1 c.loop-i-test.false }
