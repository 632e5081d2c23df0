-- The list of the file that is told.
use Rattle.host.proofs.TileLists.{tile_list_told}
use Rattle.host.proofs.tile_list.coarse_list_tile.Goals as goal

pub returns-in-Ok : goal.returns-in-Ok
returns-in-Ok c = tile_list_told _ _ _ _ _ _ _ _ c.in-Ok.ensures (rw c.list_setup.ensures at c.list_asked.ensures)
