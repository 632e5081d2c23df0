-- What the words of a row, and those of a screen's rows, add to the figures.
use Rattle.std.specs.Prelude.{Option, None, Some, option_map, ℕ, zero, suc, Bool, ◌&&◌, cond, List, [], ◌∷◌, length, eqb}
use Rattle.sizes.specs.Sizes.{paint-attr-table, layer-attr-table}
use Rattle.sizes.specs.Widths.{bucket-tiles}
use Rattle.rules.specs.Answers.{Done}
use Rattle.rules.specs.Attributes.{Attrs}
use Rattle.rules_figures.specs.Figures.{Figures, nothing, total}
use Rattle.rules_figures.specs.RowFigures.{row-figures}
use Rattle.row.specs.Words.{Words}
use Rattle.row.specs.Arena.{sizes, row_at}
use Rattle.screen.specs.declared.Screen.{Screen}
use Rattle.paint.specs.declared.canvas.stored.Stored.{Stored}
use Rattle.paint.specs.Judging.{count, wide}
use Rattle.paint.specs.Painting.{attrs-at}
use Rattle.paint.specs.Stepping.{Attributes, attributes}
use Rattle.paint.specs.StoredCmds.{stored_number}
use Rattle.compact.specs.Row.{row-read}

abbrev pub or-nothing : Option Figures → Figures
or-nothing None = nothing
or-nothing (Some g) = g

-- a row of n buckets, at v tiles a bucket; nothing where the words are no row's
unfoldable pub row-tallied : ℕ → ℕ → Attrs → Words → Figures
row-tallied v n a w = or-nothing (option_map (row-figures v n a) (row-read a n w))

-- j rows of a screen from row k on
unfoldable pub rows-tallied : Screen → Attrs → Words → ℕ → ℕ → List Figures
rows-tallied s a w k zero = []
rows-tallied s a w k (suc j) =
    row-tallied (bucket-tiles s.width) (wide s) a (row_at (sizes s.c s.d) k w) ∷ rows-tallied s a w (suc k) j

-- the screen has rows, and its words and attributes are as many as it has
abbrev pub countable : Screen → Words → Attributes → Bool
countable s w t =
    eqb (stored_number s 0 w) Done && eqb (length t.paints) paint-attr-table && eqb (length t.layers) layer-attr-table

-- all rows; nothing where the words are no screen's
unfoldable pub screen-tallied : Screen → Words → Attributes → Figures
screen-tallied s w t =
    cond (countable s w t) (total (rows-tallied s (attrs-at t.paints s.paint_attrs t.layers s.layer_attrs) w 0 (count s))) nothing

-- the attributes of what is stored
abbrev pub stored-attrs : Stored → Attributes
stored-attrs t = attributes t.paint_attrs.now t.layer_attrs.now
