-- A row of the scene has its record among all.
use Rattle.std.proofs.Common.{arith}
use Rattle.row.proofs.RoomLaws.{record-long}
use Rattle.fill.proofs.judge.has_room_at.Goals as goal

pub has_room-requires : goal.has_room-requires
has_room-requires c =
    let o = c.requires.rows in
    record { words = rw c.part-state.ensures (record-long c.args.rows.now _ (omega (arith, o.long, o.bottom, o.starts.top))); room = (o.c, o.d); layers = o.layers; few = c.requires.few }
