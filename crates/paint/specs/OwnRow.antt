-- A row painted on its own words alone: all that is lent is what one row of the screen has.
use Rattle.std.specs.Prelude.{ℕ, ◌*◌, ◌<◌, ◌≡◌, Bool, true, ◌&&◌, cond, List, length, eqb}
use Rattle.sizes.specs.Sizes.{row-size, paint-attr-table, layer-attr-table}
use Rattle.sizes.specs.Widths.{bucket-tiles}
use Rattle.rules.specs.Answers.{Done, Open}
use Rattle.rules.specs.Minima.{minima-room}
use Rattle.screen.specs.declared.Screen.{Screen}
use Rattle.paint.specs.Judging.{count, wide, arenas-long, tables-long, judged, paints-on}
use Rattle.paint.specs.Painting.{attrs-at, RowLent, words_lent, StepOut, out, refused}
use Rattle.paint.specs.Stepping.{Attributes, own, in_place}
use Rattle.paint.specs.Running.{own-step, run, most, standing, row-painted}

-- the lengths of a row's commands and depth fills, its depth words and minima
abbrev pub own-arenas-long : Screen → ℕ → ℕ → ℕ → ℕ → Bool
own-arenas-long s render fills depth minima =
    eqb render (4 * s.c) && eqb fills (2 * s.d) && (eqb depth (wide s) && eqb minima (minima-room (wide s)))

-- .. of its record and painting words, and of the tables
abbrev pub own-tables-long : ℕ → ℕ → ℕ → ℕ → Bool
own-tables-long state painting paint-attrs layer-attrs =
    eqb state row-size && eqb painting 2 && eqb paint-attrs paint-attr-table && eqb layer-attrs layer-attr-table

-- 2, 1, 4, then 13 with a layer open, or where painting has not begun
unfoldable pub own_number : Screen → Bool → Bool → ℕ
own_number s arenas tables = let n = judged s arenas tables in cond (eqb n Done) (cond (paints-on s) Done Open) n

abbrev pub own-number : Screen → Attributes → RowLent → ℕ
own-number s a l =
    own_number s (own-arenas-long s (length l.render) (length l.fills) (length l.depth.words) (length l.depth.minima))
    (own-tables-long (length l.state) (length l.painting) (length a.paints) (length a.layers))

-- the row's steps, one after the other, from where it stands
abbrev pub own-run : Screen → Attributes → RowLent → StepOut
own-run s a l =
    run (own-step (bucket-tiles s.width) (attrs-at a.paints s.paint_attrs a.layers s.layer_attrs) l.state l.render l.fills) most 0
    (standing l.depth l.painting l.list)

-- the call: refused, or the row's steps
unfoldable pub own-row-painted : Screen → Attributes → RowLent → StepOut
own-row-painted s a l =
    let n = own-number s a l in cond (eqb n Done) (own-run s a l) (out (refused n) l.depth l.painting l.list)

-- Of any screen and each of its rows, all the words having their lengths, the call for the row is the call on the row's own words, which are put in their place.
abbrev pub OwnIsRow : Type 0
OwnIsRow =
    (s : Screen) (r : ℕ) (a : Attributes) (l : RowLent) → r < count s
    → arenas-long s (length l.render) (length l.fills) (length l.depth.words) (length l.depth.minima) ≡ true
    → tables-long s (length l.state) (length l.painting) (length a.paints) (length a.layers) ≡ true
    → row-painted s r a l ≡ in_place s r l (own-row-painted s a (own s r l))

-- Whatever the call for another row did, a row's own words are as they were: so rows may be painted side by side.
abbrev pub Beside : Type 0
Beside =
    (s : Screen) (r q : ℕ) (a : Attributes) (l : RowLent) (t : List ℕ) → q < count s → (q ≡ r → ⊥)
    → let o = row-painted s r a l in own s q (words_lent l.state l.render l.fills o.depth o.painting t)
    ≡ own s q (words_lent l.state l.render l.fills l.depth l.painting t)
