-- What a recording's figures are by the rules, where so many words are lent.
use Rattle.std.specs.Prelude.{Option, None, Some, ℕ, ◌≤◌, Bool, true, cond, List}
use Rattle.sizes.specs.Sizes.{most-rows}
use Rattle.rules.specs.Boxes.{rows_of}
use Rattle.rules.specs.Recording.{File, parsed, recording, box-in}
use Rattle.rules.specs.Setups.{Setup, frame}
use Rattle.rules.specs.Walk.{Place, needed}
use Rattle.rules_figures.specs.Figures.{Figures, one-refused}
use Rattle.rules_figures.specs.Recordings.{of-file}
use Rattle.screen.specs.declared.lent.Lengths.{Lengths}
use Rattle.screen.specs.Judging.{good-tables, arenas}
use Rattle.tally.specs.Parts.{needed-words, at-most}

-- what is lent as the rules' place: no screen has more than 512 rows
abbrev pub lent-place : Setup → Lengths → Place
lent-place q n = record { limit = most-rows; setup = q; arenas = arenas n }

-- the tables beside the arenas are as long as its screen needs
abbrev pub has-tables : Option (List (List (List ℕ))) → Setup → Lengths → Bool
has-tables None q n = true
has-tables (Some ss) q n = good-tables (rows_of (frame q (recording ss).viewport).viewport) n

-- of a file in exactly these words: those that the rules give it in their place, or refused
unfoldable pub figures-in : File → Setup → Lengths → Figures
figures-in f q n = cond (has-tables (parsed f) q n) (of-file (lent-place q n) f) one-refused

-- .. in the first of so many words
abbrev pub lent-figures : File → Setup → Lengths → Figures
lent-figures f q n = figures-in f q (at-most (needed-words f q) n)

-- at least so many words of each
pub record Enough (n m : Lengths) : Type 0 where
  pub render : n.render_cmds ≤ m.render_cmds
  pub fills : n.depth_cmds ≤ m.depth_cmds
  pub depth : n.depth ≤ m.depth
  pub minima : n.minima ≤ m.minima
  pub rows : n.rows ≤ m.rows
  pub painting : n.painting ≤ m.painting
  pub layers : n.layers ≤ m.layers
  pub opacities : n.opacities ≤ m.opacities
  pub paint_attrs : n.paint_attrs ≤ m.paint_attrs
  pub layer_attrs : n.layer_attrs ≤ m.layer_attrs
  pub filter_paints : n.filter_paints ≤ m.filter_paints

-- where a file has all the words that its screen needs
abbrev pub own-place : Setup → File → Place
own-place q f = record { limit = most-rows; setup = q; arenas = needed (frame q (box-in f)) }
