-- A reset's words are those of the rules' reset (rule 1). Assumes nothing.
use Rattle.std.proofs.Common.{◌≡◌, refl, sym, ap, ◌∙◌, true, false, List, [], ◌++◌, map, ℕ, zero, suc, ◌+◌, ◌-◌, ◌*◌, suc-mul, arith, pos, length, replicate}
use Rattle.std.proofs.lemmas.Bool.Decides.{nat_tests}
use Rattle.rules.specs.Answers.{answer}
use Rattle.rules.specs.Boxes.{good_viewport, rows_of}
use Rattle.sizes.specs.Sizes.{open-layer-table, opacity-count, paint-attr-table, layer-attr-table, filter-paint-table}
use Rattle.rules.specs.Lists.{join}
use Rattle.screen.specs.Attributes.{paint-attr-words}
use Rattle.rules.specs.Rows.{Row, fresh-row}
use Rattle.rules.specs.Steps.{Screen, reset}
use Rattle.rules.specs.Walk.{good-room, good-arenas}
use Rattle.row.specs.Words.{Words, words}
use Rattle.row.specs.Arena.{lay}
use Rattle.refine_row.proofs.Screens.{blank-row, reset-words}
use Rattle.rules.specs.Plans.{Frame, buckets-across}
use Rattle.screen.specs.Screens.{fresh-screen}
use Rattle.screen.specs.declared.lent.Lengths.{Lengths}
use Rattle.screen.specs.Judging.{good-tables, arenas, judged_reset}
use Rattle.screen.specs.Depths.{blank}
use Rattle.screen.specs.Tables.{zeros, lengths, ScreenLent, float-0, reset_to}
use Rattle.screen.proofs.Passed.{reset-says}
use Rattle.layers.specs.Filter.{filter-paint-words}
use Rattle.refine_steps.specs.Sound.{Sound}
use Rattle.refine_steps.specs.Lent.{table, layers-words, layers-opacities, attr-words, attr-opacity, screen-of, lent_of}
use Rattle.refine_steps.specs.Lent as words
use Rattle.refine_steps.proofs.Kept.{reset-sound}
use Rattle.refine_steps.proofs.Tables.{replicate-add}

abbrev none_of : ℕ → List ℕ
none_of n = replicate n 0

more : (n k : ℕ) → none_of k ++ none_of (n * k) ≡ none_of (suc n * k)
more n k = let e : suc n * k ≡ k + n * k = suc-mul n k ∙ omega arith in rw e (replicate-add k (n * k) 0)

none-words : (k : ℕ) → 0 * k ≡ 0
none-words k = omega arith

-- rows of zeros
blank-rows : (n c d : ℕ) → lay (replicate n (blank-row c d)) ≡ words (replicate (n * 54) 0) (replicate (n * (4 * c)) 0) (replicate (n * (2 * d)) 0)
unfolding lay
blank-rows zero c d = rw (none-words (4 * c), none-words (2 * d))
blank-rows (suc n) c d = rw (blank-rows n c d, more n 54, more n (4 * c), more n (2 * d))

-- tables of zeros
zeros-table : {A : Type 0} (z : A) (n : ℕ) (xs : List A) → length xs ≡ n → zeros z xs ≡ table z n []
unfolding table
zeros-table z n xs e = let q : n - 0 ≡ n = omega arith in rw (q, e)

two-tables : {A : Type 0} (z : A) (m n : ℕ) (xs : List A) → length xs ≡ m + n → zeros z xs ≡ table z m [] ++ table z n []
unfolding table
two-tables z m n xs e =
    let p : m - 0 ≡ m = omega arith in
    let q : n - 0 ≡ n = omega arith in
    rw (p, q, e) (sym (replicate-add m n z))

-- how many words are lent
pub record Lengthy (l : Lengths) (n c d : ℕ) : Type 0 where
  pub render : l.render_cmds ≡ n * (4 * c)
  pub fills : l.depth_cmds ≡ n * (2 * d)
  pub rows : l.rows ≡ n * 54
  pub layers : l.layers ≡ open-layer-table
  pub opacities : l.opacities ≡ opacity-count
  pub paints : l.paint_attrs ≡ paint-attr-table
  pub attrs : l.layer_attrs ≡ layer-attr-table
  pub filters : l.filter_paints ≡ filter-paint-table

module _ (f : Frame) (l : ScreenLent) (z : judged_reset f (lengths l.tables) ≡ 0) where
  abbrev n : ℕ
  n = rows_of f.viewport

  pub judged-facts : (good_viewport f.viewport ≡ true) × (good-arenas f (arenas (lengths l.tables)) ≡ true) × (good-tables n (lengths l.tables) ≡ true)
  judged-facts = reset-says f (lengths l.tables) z

  pub rooms : (good-room f.c ≡ true) × (good-room f.d ≡ true)
  rooms = let a = judged-facts.1 in (grind (arith, nat_tests), grind (arith, nat_tests))

  lengthy : Lengthy (lengths l.tables) n f.c f.d
  lengthy =
      let a = judged-facts.1 in
      let b = judged-facts.2 in
      record {
        render = grind (arith, nat_tests);
        fills = grind (arith, nat_tests);
        rows = grind (arith, nat_tests);
        layers = grind (arith, nat_tests);
        opacities = grind (arith, nat_tests);
        paints = grind (arith, nat_tests);
        attrs = grind (arith, nat_tests);
        filters = grind (arith, nat_tests);
      }

  pub fresh-sound : Sound (reset fresh-row f)
  fresh-sound = reset-sound f judged-facts.0 rooms.0 rooms.1

  fresh-rows : words.rows_of (reset fresh-row f) ≡ words (replicate (n * 54) 0) (replicate (n * (4 * f.c)) 0) (replicate (n * (2 * f.d)) 0)
  unfolding reset
  fresh-rows = ap (λ (t : Screen Words). lay t.rows) (reset-words f.c f.d f) ∙ blank-rows n f.c f.d

  abbrev fresh : Screen Row
  fresh = reset fresh-row f

  render-is : zeros 0 l.tables.render ≡ (words.rows_of fresh).render
  render-is = ap (λ (k : ℕ). replicate k 0) lengthy.render ∙ sym (ap (λ (w : Words). w.render) fresh-rows)

  fills-is : zeros 0 l.tables.fills ≡ (words.rows_of fresh).fills
  fills-is = ap (λ (k : ℕ). replicate k 0) lengthy.fills ∙ sym (ap (λ (w : Words). w.fills) fresh-rows)

  rows_is : zeros 0 l.tables.rows ≡ (words.rows_of fresh).state
  rows_is = ap (λ (k : ℕ). replicate k 0) lengthy.rows ∙ sym (ap (λ (w : Words). w.state) fresh-rows)

  layers-is : zeros 0 l.tables.layers ≡ table 0 open-layer-table (layers-words fresh.state.layers)
  unfolding reset layers-words
  layers-is = zeros-table 0 open-layer-table l.tables.layers lengthy.layers

  opacities-is : zeros float-0 l.tables.opacities ≡ table float-0 16 (layers-opacities fresh.state.layers) ++ table float-0 1024 (map attr-opacity fresh.state.attrs.layers)
  unfolding reset layers-opacities
  opacities-is = two-tables float-0 16 1024 l.tables.opacities lengthy.opacities

  paints-is : zeros 0 l.tables.paint-attrs ≡ table 0 paint-attr-table (join paint-attr-words fresh.state.attrs.paints)
  unfolding reset
  paints-is = zeros-table 0 paint-attr-table l.tables.paint-attrs lengthy.paints

  attrs-is : zeros 0 l.tables.layer-attrs ≡ table 0 layer-attr-table (join attr-words fresh.state.attrs.layers)
  unfolding reset
  attrs-is = zeros-table 0 layer-attr-table l.tables.layer-attrs lengthy.attrs

  filters-is : zeros (pos 0) l.tables.filter-paints ≡ table (pos 0) filter-paint-table (join filter-paint-words fresh.state.attrs.filters)
  unfolding reset
  filters-is = zeros-table (pos 0) filter-paint-table l.tables.filter-paints lengthy.filters

  screen-is : fresh-screen f ≡ screen-of fresh.state false
  unfolding reset
  screen-is = refl

  -- a done reset
  pub fresh-words : reset_to f l ≡ answer 0 (lent_of (reset fresh-row f) false (blank n (buckets-across f) l.tables.depth) (zeros 0 l.tables.painting))
  unfolding reset_to lent_of
  fresh-words = rw (z, screen-is, render-is, fills-is, rows_is, layers-is, opacities-is, paints-is, attrs-is, filters-is)
