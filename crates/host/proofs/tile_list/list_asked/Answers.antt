-- In the setup that the words ask for, the call's own equation.
use Rattle.screen.specs.Screens.{setup-of}
use Rattle.host.proofs.TileLists.{tile_list-asked}
use Rattle.host.proofs.tile_list.list_asked.Goals as goal

pub returns : goal.returns
returns c = tile_list-asked _ _ _ _ _ _ (setup-of c.in-Ok.setup) c.in-Ok.ensures _ _ _ _ c.list_tile.ensures.listed c.put_count.ensures
