-- The part is row r's record, of 54 words; a good one has no more levels than layers are open.
use Rattle.std.proofs.Common.{sym, ◌∙◌}
use Rattle.row.proofs.RoomLaws.{good-small, record-long}
use Rattle.row.proofs.room.turn_to.Goals as goal

pub is_good_row-requires : goal.is_good_row-requires
is_good_row-requires c = (rw c.part-state.ensures (record-long _ _ c.requires.1), c.requires.0)

pub load-requires : goal.load-requires
load-requires c = (
  rw c.part-state.ensures (record-long _ _ c.requires.1),
  (good-small _ _ _ _ (sym c.is_good_row.ensures ∙ c.if-not-is_good_row.false)).levels,
)
