-- The answers 2, 1 and 4 for a screen's numbers and for how many words are lent.
use Rattle.std.specs.Prelude.{ℕ, ◌*◌, Bool, ◌&&◌, not, [], ◌∷◌, eqb}
use Rattle.sizes.specs.Sizes.{row-size, open-layer-table, opacity-count, paint-attr-table, layer-attr-table, filter-paint-table}
use Rattle.rules.specs.Answers.{first_of, BadArena, BadViewport, BadRecord}
use Rattle.rules.specs.Boxes.{good_viewport, rows_of}
use Rattle.rules.specs.Plans.{Frame}
use Rattle.rules.specs.Walk.{Arenas, good-room, good-arenas}
use Rattle.rect.specs.Rects.{box_of}
use Rattle.screen.specs.declared.Screen.{Screen}
use Rattle.screen.specs.declared.lent.Lengths.{Lengths}
use Rattle.screen.specs.Screens.{good_screen}

-- C and D in range, and the render and depth fill arenas of n rows lent exactly
abbrev pub good-rooms : ℕ → ℕ → ℕ → ℕ → ℕ → Bool
good-rooms n c d render fills = good-room c && good-room d && eqb render (n * (4 * c)) && eqb fills (n * (2 * d))

-- a building step's first tests
unfoldable pub judged : Screen → ℕ → ℕ → ℕ → ℕ
judged s rows render fills =
    let n = rows_of (box_of s.viewport) in
    first_of
    ((not (good_viewport (box_of s.viewport)), BadViewport)
    ∷ (not (good-rooms n s.c s.d render fills), BadArena)
    ∷ (not (eqb rows (n * row-size) && good_screen s), BadRecord)
    ∷ [])

-- the tables whose length no screen changes
abbrev pub good-fixed : Lengths → Bool
good-fixed l =
    eqb l.layers open-layer-table
    && eqb l.opacities opacity-count
    && eqb l.paint_attrs paint-attr-table
    && eqb l.layer_attrs layer-attr-table
    && eqb l.filter_paints filter-paint-table

-- the tables beside the arenas of n rows
abbrev pub good-tables : ℕ → Lengths → Bool
good-tables n l = eqb l.rows (n * row-size) && eqb l.painting (n * 2) && good-fixed l

abbrev pub arenas : Lengths → Arenas
arenas l = record { render = l.render_cmds; fills = l.depth_cmds; depth = l.depth; minima = l.minima }

-- a reset to a frame
unfoldable pub judged_reset : Frame → Lengths → ℕ
judged_reset f l =
    first_of
    ((not (good_viewport f.viewport), BadViewport)
    ∷ (not (good-arenas f (arenas l)), BadArena)
    ∷ (not (good-tables (rows_of f.viewport) l), BadRecord)
    ∷ [])
