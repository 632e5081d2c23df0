-- Structs with slices in them, that a host lends: what they hold, that a call leaves the slices themselves, and which of them hold what they held.
use Rattle.std.specs.Prelude.{◌≡◌}
use Rattle.row.specs.Words.{Words, words}
use Rattle.screen.specs.declared.lent.Lent.{Lent}
use Rattle.pop.specs.Pop.{PopLent, pop_lent}

-- what the tables of the rows hold
abbrev pub rows_in : Lent → Words
rows_in l = words l.rows.now l.render_cmds.now l.depth_cmds.now

-- .. and those that a pop is lent
abbrev pub pop_in : Lent → PopLent
pop_in l = pop_lent (rows_in l) l.layers.now l.opacities.now l.layer_attrs.now

-- what a fill leaves as it was
pub record FillKeeps (a b : Lent) : Type 0 where
  pub depth : b.depth.now ≡ a.depth.now
  pub minima : b.minima.now ≡ a.minima.now
  pub painting : b.painting.now ≡ a.painting.now
  pub layers : b.layers.now ≡ a.layers.now
  pub opacities : b.opacities.now ≡ a.opacities.now
  pub layer_attrs : b.layer_attrs.now ≡ a.layer_attrs.now
  pub filter_paints : b.filter_paints.now ≡ a.filter_paints.now

-- what a push leaves as it was
pub record PushKeeps (a b : Lent) : Type 0 where
  pub depth : b.depth.now ≡ a.depth.now
  pub minima : b.minima.now ≡ a.minima.now
  pub painting : b.painting.now ≡ a.painting.now
  pub paint_attrs : b.paint_attrs.now ≡ a.paint_attrs.now
  pub layer_attrs : b.layer_attrs.now ≡ a.layer_attrs.now
  pub filter_paints : b.filter_paints.now ≡ a.filter_paints.now

-- what a pop leaves as it was
pub record PopKeeps (a b : Lent) : Type 0 where
  pub depth : b.depth.now ≡ a.depth.now
  pub minima : b.minima.now ≡ a.minima.now
  pub painting : b.painting.now ≡ a.painting.now
  pub paint_attrs : b.paint_attrs.now ≡ a.paint_attrs.now
  pub filter_paints : b.filter_paints.now ≡ a.filter_paints.now

-- what a filter fill leaves as it was
pub record FilterKeeps (a b : Lent) : Type 0 where
  pub depth : b.depth.now ≡ a.depth.now
  pub minima : b.minima.now ≡ a.minima.now
  pub painting : b.painting.now ≡ a.painting.now
  pub layers : b.layers.now ≡ a.layers.now
  pub opacities : b.opacities.now ≡ a.opacities.now
  pub layer_attrs : b.layer_attrs.now ≡ a.layer_attrs.now
