-- A row that is lent as three slices, as its words.
use Rattle.std.specs.Prelude.{◌≡◌}
use Rattle.row.specs.Words.{Words, words}
use Rattle.row.specs.declared.words.Row.{Row}

-- what the three slices hold
abbrev pub held : Row → Words
held r = words r.state.now r.render_cmds.now r.depth_cmds.now

-- the same three slices, whatever they hold
pub record Same (a b : Row) : Type 0 where
  pub state : b.state.ghost_name ≡ a.state.ghost_name
  pub render : b.render_cmds.ghost_name ≡ a.render_cmds.ghost_name
  pub fills : b.depth_cmds.ghost_name ≡ a.depth_cmds.ghost_name
