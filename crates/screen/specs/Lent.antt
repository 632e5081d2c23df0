-- What a host lends, as its tables.
use Rattle.std.specs.Prelude.{◌≡◌}
use Rattle.screen.specs.declared.lent.Lent.{Lent}
use Rattle.screen.specs.declared.Screen.{Screen}
use Rattle.screen.specs.Depths.{depths}
use Rattle.screen.specs.Tables.{Tables, tables, lengths, ScreenLent, screen_lent}

-- what all the slices hold
abbrev pub tables_in : Lent → Tables
tables_in l =
    tables l.render_cmds.now l.depth_cmds.now (depths l.depth.now l.minima.now) l.rows.now l.painting.now l.layers.now l.opacities.now l.paint_attrs.now
    l.layer_attrs.now l.filter_paints.now

-- a screen and what all its slices hold
abbrev pub whole : Screen → Lent → ScreenLent
whole s l = screen_lent s (tables_in l)

-- the same slices, whatever they hold; their lengths are said too, since no name tells them
pub record SameLent (a b : Lent) : Type 0 where
  pub render : b.render_cmds.ghost_name ≡ a.render_cmds.ghost_name
  pub fills : b.depth_cmds.ghost_name ≡ a.depth_cmds.ghost_name
  pub depth : b.depth.ghost_name ≡ a.depth.ghost_name
  pub minima : b.minima.ghost_name ≡ a.minima.ghost_name
  pub rows : b.rows.ghost_name ≡ a.rows.ghost_name
  pub painting : b.painting.ghost_name ≡ a.painting.ghost_name
  pub layers : b.layers.ghost_name ≡ a.layers.ghost_name
  pub opacities : b.opacities.ghost_name ≡ a.opacities.ghost_name
  pub paint_attrs : b.paint_attrs.ghost_name ≡ a.paint_attrs.ghost_name
  pub layer_attrs : b.layer_attrs.ghost_name ≡ a.layer_attrs.ghost_name
  pub filter_paints : b.filter_paints.ghost_name ≡ a.filter_paints.ghost_name
  pub long : lengths (tables_in b) ≡ lengths (tables_in a)
