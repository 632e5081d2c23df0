use Rattle.host.specs.TileList.{tile_list_call}
use Rattle.theorem_once.proofs.Once.{once}
use Rattle.theorem_once.proofs.border.building.list_tile_twice.Goals as goal

pub returns : goal.returns
returns c =
    let a = c.args in
    λ same. once same (λ w. tile_list_call w.0 a.mode a.width a.row a.tile w.1 w.2) c.coarse_list_tile.ensures c.coarse_list_tile-2.ensures
