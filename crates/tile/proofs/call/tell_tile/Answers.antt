-- The tile is one of the screen's.
use Rattle.tile.proofs.Spots.{spotted}
use Rattle.tile.proofs.call.tell_tile.Goals as goal

pub tell_spot-requires-clause-spot : goal.tell_spot-requires-clause-spot
tell_spot-requires-clause-spot c = rw c.tiles.ensures (spotted c.args.viewport c.requires.good c.args.width c.args.row c.args.tile c.requires.on_screen)

pub returns : goal.returns
returns c = rw c.tiles.ensures at c.tell_spot.ensures
