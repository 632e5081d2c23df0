-- The numbers 2, 1, 4, 12 and 13 of a call on a screen. Each call judges what it is lent.
use Rattle.std.specs.Prelude.{ℕ, ◌*◌, Bool, true, ◌&&◌, not, cond, [], ◌∷◌, leb, eqb}
use Rattle.sizes.specs.Sizes.{row-size, paint-attr-table, layer-attr-table}
use Rattle.sizes.specs.Widths.{bucket-tiles}
use Rattle.rules.specs.Answers.{first_of, Done, BadArena, BadViewport, BadRecord, BadRun, Open}
use Rattle.rules.specs.Boxes.{good_viewport, rows_of, buckets-of}
use Rattle.rules.specs.Minima.{minima-room}
use Rattle.rules.specs.Walk.{good-room}
use Rattle.rect.specs.Rects.{box_of}
use Rattle.screen.specs.declared.Screen.{Screen}
use Rattle.screen.specs.Screens.{good_screen}

-- rows, and buckets in each
abbrev pub count : Screen → ℕ
count s = rows_of (box_of s.viewport)

abbrev pub wide : Screen → ℕ
wide s = buckets-of (bucket-tiles s.width) (box_of s.viewport)

-- the arenas' lengths, rows x the words of a row
abbrev pub depth-long : Screen → ℕ → Bool
depth-long s depth = eqb depth (count s * wide s)

abbrev pub minima-long : Screen → ℕ → Bool
minima-long s minima = eqb minima (count s * minima-room (wide s))

-- .. of the depth words and their minima, lent as one
abbrev pub depths-long : Screen → ℕ → ℕ → Bool
depths-long s depth minima = depth-long s depth && minima-long s minima

abbrev pub arenas-long : Screen → ℕ → ℕ → ℕ → ℕ → Bool
arenas-long s render fills depth minima =
    eqb render (count s * (4 * s.c)) && eqb fills (count s * (2 * s.d)) && depths-long s depth minima

-- .. and the tables'
abbrev pub rows_long : Screen → ℕ → Bool
rows_long s rows = eqb rows (count s * row-size)

abbrev pub painting-long : Screen → ℕ → Bool
painting-long s painting = eqb painting (count s * 2)

abbrev pub tables-long : Screen → ℕ → ℕ → ℕ → ℕ → Bool
tables-long s rows painting paint-attrs layer-attrs =
    rows_long s rows && painting-long s painting && eqb paint-attrs paint-attr-table && eqb layer-attrs layer-attr-table

-- 2, then 1, then 4: the screen's numbers, and whether the arenas and tables that are lent have their lengths
unfoldable pub judged : Screen → Bool → Bool → ℕ
judged s arenas tables =
    first_of
    ((not (good_viewport (box_of s.viewport)), BadViewport)
    ∷ (not (good-room s.c && good-room s.d && arenas), BadArena)
    ∷ (not (tables && good_screen s), BadRecord)
    ∷ [])

-- then 12: there is no row r
abbrev pub of_row : ℕ → Screen → ℕ → ℕ
of_row n s r = cond (eqb n Done) (cond (leb (count s) r) BadRun Done) n

-- beginning to paint: 13 with a layer open
unfoldable pub begin_number : Screen → ℕ → ℕ → ℕ → ℕ
begin_number s depth minima painting =
    let n = judged s (depths-long s depth minima) (painting-long s painting) in
    cond (eqb n Done) (cond (eqb s.layers 0) Done Open) n

-- no layer is open, and painting has begun
abbrev pub paints-on : Screen → Bool
paints-on s = eqb s.layers 0 && s.painting

-- a painting step: 13 with a layer open, or where painting has not begun
unfoldable pub step_number : Screen → ℕ → Bool → Bool → ℕ
step_number s r arenas tables =
    let n = of_row (judged s arenas tables) s r in cond (eqb n Done) (cond (paints-on s) Done Open) n

-- reading runs are lent the depth words, the writing run those and their minima, `is_hidden` the minima, `can_skip` the rows' records
unfoldable pub runs_number : Screen → ℕ → ℕ → ℕ
runs_number s r depth = of_row (judged s (depth-long s depth) true) s r

unfoldable pub write_number : Screen → ℕ → ℕ → ℕ → ℕ
write_number s r depth minima = of_row (judged s (depths-long s depth minima) true) s r

unfoldable pub hidden_number : Screen → ℕ → ℕ → ℕ
hidden_number s r minima = of_row (judged s (minima-long s minima) true) s r

unfoldable pub skip_number : Screen → ℕ → ℕ → ℕ
skip_number s r rows = of_row (judged s true (rows_long s rows)) s r
