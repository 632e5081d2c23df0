-- The walk's law.
use Rattle.rules_picture.proofs.Roomless.{roomless-done}
use Rattle.rules_picture.proofs.accepted_walks_need_no_room.Goals as goal

pub returns : goal.returns
returns c = roomless-done
