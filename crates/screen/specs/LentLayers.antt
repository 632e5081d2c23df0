-- The open layers that are lent as two slices.
use Rattle.std.specs.Prelude.{◌≡◌, length}
use Rattle.screen.specs.declared.layers.Layers.{Layers}

-- the same two slices, whatever they hold; their lengths are said too, since no name tells them
pub record SameLayers (a b : Layers) : Type 0 where
  pub table : b.table.ghost_name ≡ a.table.ghost_name
  pub opacities : b.opacities.ghost_name ≡ a.opacities.ghost_name
  pub table-long : length b.table.now ≡ length a.table.now
  pub opacities-long : length b.opacities.now ≡ length a.opacities.now
