-- What a reset clears of a screen that was built from one: what its steps wrote, as far as its numbers and its rows' records count it.
use Rattle.std.specs.Prelude.{ℕ, zero, suc, ◌*◌, min, cond, List, ◌++◌, length, take, drop, get_or, replicate, eqb, pos}
use Rattle.sizes.specs.Sizes.{renders-at, depths-at, row-size, most-layers, open-layer-size, paint-attr-size, layer-attr-size, filter-paint-size}
use Rattle.rules.specs.Answers.{Answer, settle, BadRecord}
use Rattle.rules.specs.Boxes.{rows_of}
use Rattle.rules.specs.Plans.{buckets-across}
use Rattle.screen.specs.declared.Screen.{Screen}
use Rattle.screen.specs.declared.lent.Lengths.{Lengths}
use Rattle.screen.specs.Screens.{good_screen, frame-of, fresh-screen}
use Rattle.screen.specs.Judging.{judged_reset}
use Rattle.screen.specs.Depths.{blank}
use Rattle.screen.specs.Tables.{Tables, tables, lengths, zeros, float-0, ScreenLent, screen_lent}

-- the first n entries become z
abbrev pub first-cleared : {A : Type 0} → A → ℕ → List A → List A
first-cleared z n xs = replicate (min n (length xs)) z ++ drop n xs

-- Of the parts of n rows, so many words each, the first words become 0: so many for each thing that the row's record counts in word k.
unfoldable pub rows-cleared : (size each k n : ℕ) → List ℕ → List ℕ → List ℕ
rows-cleared size each k zero rs ws = ws
rows-cleared size each k (suc n) rs ws =
    first-cleared 0 (each * get_or rs k 0) (take size ws) ++ rows-cleared size each k n (drop row-size rs) (drop size ws)

-- The rows' commands and depth fills that their records count, and the attributes, filter paints and open layers that the screen counts, become 0, and every word
-- of the rows' records and of painting.
abbrev pub used-cleared : Screen → Tables → Tables
used-cleared s t =
    let f = frame-of s in
    let n = rows_of f.viewport in
    tables (rows-cleared (4 * s.c) 4 renders-at n t.rows t.render) (rows-cleared (2 * s.d) 2 depths-at n t.rows t.fills) (blank n (buckets-across f) t.depth)
    (zeros 0 t.rows) (zeros 0 t.painting) (first-cleared 0 (open-layer-size * s.layers) t.layers)
    (first-cleared float-0 s.layers (take most-layers t.opacities) ++ first-cleared float-0 s.layer_attrs (drop most-layers t.opacities))
    (first-cleared 0 (paint-attr-size * s.paint_attrs) t.paint-attrs) (first-cleared 0 (layer-attr-size * s.layer_attrs) t.layer-attrs)
    (first-cleared (pos 0) (filter-paint-size * s.filter_paints) t.filter-paints)

-- 2, 1 and 4 as a reset to the screen's own frame, then 4 for the screen's numbers
unfoldable pub judged_used : Screen → Lengths → ℕ
judged_used s l = let n = judged_reset (frame-of s) l in cond (eqb n 0) (cond (good_screen s) 0 BadRecord) n

-- a reset to the screen's own frame that clears what is used: the fresh screen, or what was there before
unfoldable pub used_reset : ScreenLent → Answer ScreenLent
used_reset l =
    settle (judged_used l.screen (lengths l.tables)) l (screen_lent (fresh-screen (frame-of l.screen)) (used-cleared l.screen l.tables))
