-- The rows of a screen counted one after the other.
use Rattle.std.proofs.Common.{◌≡◌, refl, sym, ◌∙◌, ap, ℕ, suc, ◌+◌, ◌-◌, ◌*◌, ◌≤◌, ◌<◌, arith, true, false, ◌&&◌, List, length, take, drop, eqb, eqb-true}
use lib.ListN.{length-take, length-drop}
use Rattle.sizes.specs.Sizes.{row-size, paint-attr-table, layer-attr-table}
use Rattle.sizes.specs.Widths.{bucket-tiles}
use Rattle.rules.specs.Answers.{Done}
use Rattle.rules.specs.Attributes.{Attrs}
use Rattle.rules.proofs.All.{and_left, and_right}
use Rattle.rules_figures.specs.Figures.{Figures, nothing, plus, total}
use Rattle.row.specs.Words.{Words}
use Rattle.row.specs.Arena.{sizes, row_at}
use Rattle.screen.specs.declared.Screen.{Screen}
use Rattle.paint.specs.Judging.{count, wide, rows_long}
use Rattle.paint.specs.Painting.{attrs-at}
use Rattle.paint.specs.Stepping.{Attributes, Within}
use Rattle.paint.specs.StoredCmds.{stored-long, stored_number}
use Rattle.paint.proofs.Judged.{there-by}
use Rattle.paint.proofs.ScreenParts.{lies, few-attrs}
use Rattle.tally.specs.Counts.{Within as Small}
use Rattle.tally.specs.Rows.{row-tallied, rows-tallied, countable, screen-tallied}

-- row r is there, and its words lie within those that are stored
pub record RowLies (s : Screen) (w : Words) (r : ℕ) : Type 0 where
  pub state : Within row-size r w.state
  pub render : Within (4 * s.c) r w.render
  pub fills : Within (2 * s.d) r w.fills

-- what a screen that can be counted has
pub record Whole (s : Screen) (w : Words) (t : Attributes) : Type 0 where
  pub few : count s ≤ 512
  pub narrow : wide s ≤ 64
  pub few-commands : s.c ≤ 1024
  pub few-fills : s.d ≤ 1024
  pub rows : (r : ℕ) → r < count s → RowLies s w r
  pub paint_len : length t.paints ≡ paint-attr-table
  pub paints_few : s.paint_attrs ≤ 1024
  pub layer_len : length t.layers ≡ layer-attr-table
  pub layers_few : s.layer_attrs ≤ 1024

pub is-whole : (s : Screen) (w : Words) (t : Attributes) → countable s w t ≡ true → Whole s w t
unfolding stored_number
is-whole s w t h =
    let a = eqb (stored_number s 0 w) Done in
    let b = eqb (length t.paints) paint-attr-table in
    let c = eqb (length t.layers) layer-attr-table in
    let n : stored_number s 0 w ≡ 0 = eqb-true _ _ (and_left a b (and_left (a && b) c h)) in
    let o = there-by s 0 (stored-long s (length w.render) (length w.fills)) (rows_long s (length w.state)) n in
    let p = o.passed in
    let re = eqb (length w.render) (count s * (4 * s.c)) in
    let fi = eqb (length w.fills) (count s * (2 * s.d)) in
    let few = few-attrs s p.screen in
    record {
      few = p.few;
      narrow = p.narrow;
      few-commands = p.c-room.few;
      few-fills = p.d-room.few;
      rows = λ r there. record {
        state = lies (count s) r row-size w.state there p.few (omega arith) p.tables;
        render = lies (count s) r (4 * s.c) w.render there p.few (omega (arith, p.c-room.few)) (and_left re fi p.arenas);
        fills = lies (count s) r (2 * s.d) w.fills there p.few (omega (arith, p.d-room.few)) (and_right re fi p.arenas);
      };
      paint_len = eqb-true _ _ (and_right a b (and_left (a && b) c h));
      paints_few = few.0;
      layer_len = eqb-true _ _ (and_right (a && b) c h);
      layers_few = few.1;
    }

pub plus-plus : (a b c : Figures) → plus (plus a b) c ≡ plus a (plus b c)
plus-plus a b c = grind arith

pub plus-nothing : (a : Figures) → plus a nothing ≡ a
plus-nothing a = grind arith

pub nothing-plus : (a : Figures) → plus nothing a ≡ a
nothing-plus a = grind arith

pub within-plus : {n m : ℕ} {a b : Figures} → Small n a → Small m b → Small (n + m) (plus a b)
within-plus i j = record {
  asked = let p = i.asked in let q = j.asked in omega arith;
  painted = let p = i.painted in let q = j.painted in omega arith;
  hidden = let p = i.hidden in let q = j.hidden in omega arith;
  commands = let p = i.commands in let q = j.commands in omega arith;
  fills = let p = i.fills in let q = j.fills in omega arith;
  refused = let p = i.refused in let q = j.refused in omega arith;
}

-- a part of a size is no longer than that
pub part-short : (k m : ℕ) (xs : List ℕ) → k ≤ m → length (take k xs) ≤ m
part-short k m xs h = let t = length-take k xs in omega arith

pub part-long : (k at : ℕ) (xs : List ℕ) → at + k ≤ length xs → length (take k (drop at xs)) ≡ k
part-long k at xs h = let t = length-take k (drop at xs) in let d = length-drop at xs in omega arith

module _ (s : Screen) (a : Attrs) (w : Words) where
  abbrev pub from : ℕ → ℕ → Figures
  from k n = total (rows-tallied s a w k (n - k))

  -- with those before row k counted, the others are still to be
  pub no-row : (n : ℕ) (g : Figures) → g ≡ nothing → plus g (from 0 n) ≡ from 0 n
  no-row n g e = ap (λ (x : Figures). plus x (from 0 n)) e ∙ nothing-plus (from 0 n)

  pub one-row : (k n : ℕ) (g r p : Figures) → k < n → plus g (from k n) ≡ from 0 n
      → r ≡ row-tallied (bucket-tiles s.width) (wide s) a (row_at (sizes s.c s.d) k w) → p ≡ plus g r → plus p (from (k + 1) n) ≡ from 0 n
  unfolding rows-tallied total
  one-row k n g r p h e q d =
      let z : n - k ≡ suc (n - (k + 1)) = omega arith in
      let y : k + 1 ≡ suc k = omega arith in
      ap (λ (x : Figures). plus x (from (k + 1) n)) d ∙ plus-plus g r (from (k + 1) n) ∙ (rw (q, y) (rw (z, y) at e))

  pub all-rows : (k n : ℕ) (g : Figures) → n ≤ k → plus g (from k n) ≡ from 0 n → g ≡ total (rows-tallied s a w 0 n)
  unfolding rows-tallied total
  all-rows k n g h e =
      let z : n - k ≡ 0 = omega arith in
      let y : n - 0 ≡ n = omega arith in
      sym (plus-nothing g) ∙ (rw (z, y) at e)

-- the screen as a whole
pub not-countable : (s : Screen) (w : Words) (t : Attributes) → countable s w t ≡ false → nothing ≡ screen-tallied s w t
unfolding screen-tallied
not-countable s w t h = rw h refl

pub counted : (s : Screen) (w : Words) (t : Attributes) (g : Figures) → countable s w t ≡ true
    → g ≡ total (rows-tallied s (attrs-at t.paints s.paint_attrs t.layers s.layer_attrs) w 0 (count s)) → g ≡ screen-tallied s w t
unfolding screen-tallied
counted s w t g h e = rw h e
