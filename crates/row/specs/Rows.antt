-- The rows of a screen, lent as three slices, as their words.
use Rattle.std.specs.Prelude.{◌≡◌, length}
use Rattle.row.specs.Words.{Words, words}
use Rattle.row.specs.declared.rows.Rows.{Rows}

-- what the three slices hold
abbrev pub all-held : Rows → Words
all-held r = words r.state.now r.render_cmds.now r.depth_cmds.now

-- the same three slices, whatever they hold; their lengths are said too, since no name tells them
pub record SameRows (a b : Rows) : Type 0 where
  pub state : b.state.ghost_name ≡ a.state.ghost_name
  pub render : b.render_cmds.ghost_name ≡ a.render_cmds.ghost_name
  pub fills : b.depth_cmds.ghost_name ≡ a.depth_cmds.ghost_name
  pub states-long : length b.state.now ≡ length a.state.now
  pub renders-long : length b.render_cmds.now ≡ length a.render_cmds.now
  pub fills-long : length b.depth_cmds.now ≡ length a.depth_cmds.now
