-- A row's own words are those of a screen of one row, and those of a row's place in its screen. Assumes nothing.
use Rattle.std.proofs.Common.{◌≡◌, refl, sym, ap, ◌∙◌, Bool, true, false, ◌&&◌, cond, List, append-nil, ℕ, ◌*◌, ◌≤◌, ◌<◌, arith, length, take_all, eqb, eqb-true, eq-eqb, ne_eqb}
use lib.Seq.{drop-length}
use borrow.Author.Tests.{lt-leb}
use borrow.Rule.Slice.PartMut.{put_same}
use Rattle.sizes.specs.Sizes.{paint-attr-table, layer-attr-table}
use Rattle.sizes.specs.Widths.{bucket-tiles}
use Rattle.sizes.specs.declared.answers.Refusal.{Refusal}
use Rattle.sizes.specs.Refusals.{number_of}
use Rattle.sizes.proofs.Refusals.{not_done}
use Rattle.rules.proofs.All.{and_left, and_right}
use Rattle.rules.specs.Minima.{minima-room}
use Rattle.row.proofs.RowsLaws.{part-0, put-0, part-long}
use Rattle.screen.proofs.Blanks.{few-minima}
use Rattle.screen.specs.declared.Screen.{Screen}
use Rattle.paint.specs.Painting.{attrs-at, RowLent, StepOut, out, refused}
use Rattle.paint.specs.Judging.{count, wide, arenas-long, tables-long, judged, paints-on, step_number}
use Rattle.paint.specs.Stepping.{part, with_part, Within, Attributes, own-parts, put-parts, own, in_place, number, StepReady, stepped}
use Rattle.paint.specs.Running.{goes_on, one_more, most, standing, call_step, row-run, row-run-on, row-painted}
use Rattle.paint.specs.OwnRow.{own-arenas-long, own-tables-long, own_number, own-number, own-run, own-row-painted, OwnIsRow, Beside}
use Rattle.paint.proofs.Judged.{Passed, passed, past-begun}
use Rattle.paint.proofs.ScreenParts.{few-attrs}
use Rattle.paint.proofs.WholeLaws.{row-alone}
use Rattle.paint.proofs.WholeParts.{calls-are-run}
use Rattle.paint.proofs.WholeRuns.{stops}

own-passed : (s : Screen) (arenas tables : Bool) → own_number s arenas tables ≡ 0 → Passed s arenas tables
unfolding own_number
own-passed s arenas tables h = passed s arenas tables (past-begun _ (paints-on s) h)

-- words that are one row's: its part of them is all of them
module _ (k : ℕ) (xs : List ℕ) where
  whole-within : k ≤ 4096 → eqb (length xs) k ≡ true → Within k 0 xs
  whole-within h e = let l : length xs ≡ k = eqb-true _ _ e in record { ends = omega (arith, l); near = omega arith; short = h }

  module _ (e : length xs ≡ k) where
    whole-part : part k 0 xs ≡ xs
    whole-part = part-0 k 0 xs ∙ take_all k xs (omega (arith, e))

    whole-put : (ys : List ℕ) → with_part k 0 xs ys ≡ ys
    whole-put ys = put-0 k 0 xs ys ∙ rw (← e, drop-length xs, append-nil ys)

module _ (s : Screen) (a : Attributes) (l : RowLent) where
  abbrev re : Bool
  re = eqb (length l.render) (4 * s.c)

  abbrev fi : Bool
  fi = eqb (length l.fills) (2 * s.d)

  abbrev de : Bool
  de = eqb (length l.depth.words) (wide s)

  abbrev mi : Bool
  mi = eqb (length l.depth.minima) (minima-room (wide s))

  abbrev ro : Bool
  ro = eqb (length l.state) 54

  abbrev pa : Bool
  pa = eqb (length l.painting) 2

  abbrev ps : Bool
  ps = eqb (length a.paints) paint-attr-table

  abbrev ls : Bool
  ls = eqb (length a.layers) layer-attr-table

  -- the lengths of a call that is judged 0
  record Long : Type 0 where
    passed : Passed s (re && fi && (de && mi)) (ro && pa && ps && ls)
    render : re ≡ true
    fills : fi ≡ true
    words : de ≡ true
    minima : mi ≡ true
    state : ro ≡ true
    painting : pa ≡ true
    paints : ps ≡ true
    layers : ls ≡ true

  long : own-number s a l ≡ 0 → Long
  long h =
      let o = own-passed s (re && fi && (de && mi)) (ro && pa && ps && ls) h in
      let g : (re && fi) ≡ true = and_left (re && fi) (de && mi) o.arenas in
      let dm : (de && mi) ≡ true = and_right (re && fi) (de && mi) o.arenas in
      let k : (ro && pa && ps) ≡ true = and_left (ro && pa && ps) ls o.tables in
      let m : (ro && pa) ≡ true = and_left (ro && pa) ps k in
      record {
        passed = o;
        render = and_left re fi g;
        fills = and_right re fi g;
        words = and_left de mi dm;
        minima = and_right de mi dm;
        state = and_left ro pa m;
        painting = and_right ro pa m;
        paints = and_right (ro && pa) ps k;
        layers = and_right (ro && pa && ps) ls o.tables;
      }

  pub own-ready : own-number s a l ≡ 0 → StepReady (wide s) s.c s.d s.paint_attrs s.layer_attrs 0 a l
  own-ready h =
      let g = long h in
      let o = g.passed in
      let few = few-attrs s o.screen in
      record {
        state = whole-within 54 l.state (omega arith) g.state;
        render = whole-within (4 * s.c) l.render (omega (arith, o.c-room.few)) g.render;
        fills = whole-within (2 * s.d) l.fills (omega (arith, o.d-room.few)) g.fills;
        depth = whole-within (wide s) l.depth.words (omega (arith, o.narrow)) g.words;
        minima = whole-within (minima-room (wide s)) l.depth.minima (omega (arith, few-minima (wide s), o.narrow)) g.minima;
        painting = whole-within 2 l.painting (omega arith) g.painting;
        few-commands = o.c-room.few;
        few-fills = o.d-room.few;
        paint-table = eqb-true _ _ g.paints;
        layer-table = eqb-true _ _ g.layers;
        paints = few.0;
        layers = few.1;
      }

  -- row 0 of such words is all of them
  module _ (h : own-number s a l ≡ 0) where
    lent-whole : own-parts (wide s) s.c s.d 0 l ≡ l
    lent-whole =
        let g = long h in
        rw (
          whole-part 54 l.state (eqb-true _ _ g.state),
          whole-part (4 * s.c) l.render (eqb-true _ _ g.render),
          whole-part (2 * s.d) l.fills (eqb-true _ _ g.fills),
          whole-part (wide s) l.depth.words (eqb-true _ _ g.words),
          whole-part (minima-room (wide s)) l.depth.minima (eqb-true _ _ g.minima),
          whole-part 2 l.painting (eqb-true _ _ g.painting),
        )

    put-whole : (o : StepOut) → put-parts (wide s) 0 l o ≡ o
    put-whole o =
        let g = long h in
        rw (
          whole-put (wide s) l.depth.words (eqb-true _ _ g.words) o.depth.words,
          whole-put (minima-room (wide s)) l.depth.minima (eqb-true _ _ g.minima) o.depth.minima,
          whole-put 2 l.painting (eqb-true _ _ g.painting) o.painting,
        )

    row-0 : row-run (bucket-tiles s.width) most (attrs-at a.paints s.paint_attrs a.layers s.layer_attrs) (wide s) s.c s.d 0 l ≡ own-run s a l
    unfolding row-run-on
    row-0 = ap (λ (w : RowLent). put-parts (wide s) 0 l (own-run s a w)) lent-whole ∙ put-whole (own-run s a l)

  -- the call, refused or done
  pub own_refused : (k : Refusal) → number_of k ≡ own-number s a l → out (refused (number_of k)) l.depth l.painting l.list ≡ own-row-painted s a l
  unfolding own-row-painted
  own_refused k e = rw (← e, ne_eqb (number_of k) 0 (not_done k))

  pub own_done : (o : StepOut) → 0 ≡ own-number s a l
      → o ≡ row-run (bucket-tiles s.width) most (attrs-at a.paints s.paint_attrs a.layers s.layer_attrs) (wide s) s.c s.d 0 l → o ≡ own-row-painted s a l
  unfolding own-row-painted
  own_done o h p = rw (← h) (p ∙ row-0 (sym h))

-- A row's own words have the lengths of one row where all the words have theirs: the judges say the same of them.
module _ (s : Screen) (r : ℕ) (a : Attributes) (l : RowLent) (h : r < count s)
    (x : arenas-long s (length l.render) (length l.fills) (length l.depth.words) (length l.depth.minima) ≡ true)
    (y : tables-long s (length l.state) (length l.painting) (length a.paints) (length a.layers) ≡ true) where
  abbrev mine : RowLent
  mine = own s r l

  part-fits : (k : ℕ) (xs : List ℕ) → eqb (length xs) (count s * k) ≡ true → eqb (length (part k r xs)) k ≡ true
  part-fits k xs e = eq-eqb _ _ (part-long (count s) r k xs h (eqb-true _ _ e))

  own-arenas : own-arenas-long s (length mine.render) (length mine.fills) (length mine.depth.words) (length mine.depth.minima) ≡ true
  own-arenas =
      let re = eqb (length l.render) (count s * (4 * s.c)) in
      let fi = eqb (length l.fills) (count s * (2 * s.d)) in
      let de = eqb (length l.depth.words) (count s * wide s) in
      let mi = eqb (length l.depth.minima) (count s * minima-room (wide s)) in
      let g : (re && fi) ≡ true = and_left (re && fi) (de && mi) x in
      let dm : (de && mi) ≡ true = and_right (re && fi) (de && mi) x in
      rw (
        part-fits (4 * s.c) l.render (and_left re fi g),
        part-fits (2 * s.d) l.fills (and_right re fi g),
        part-fits (wide s) l.depth.words (and_left de mi dm),
        part-fits (minima-room (wide s)) l.depth.minima (and_right de mi dm),
      )

  own-tables : own-tables-long (length mine.state) (length mine.painting) (length a.paints) (length a.layers) ≡ true
  own-tables =
      let ro = eqb (length l.state) (count s * 54) in
      let pa = eqb (length l.painting) (count s * 2) in
      let ps = eqb (length a.paints) paint-attr-table in
      let ls = eqb (length a.layers) layer-attr-table in
      let k : (ro && pa && ps) ≡ true = and_left (ro && pa && ps) ls y in
      let m : (ro && pa) ≡ true = and_left (ro && pa) ps k in
      rw (
        part-fits 54 l.state (and_left ro pa m),
        part-fits 2 l.painting (and_right ro pa m),
        and_right (ro && pa) ps k,
        and_right (ro && pa && ps) ls y,
      )

  past-row : (n q : ℕ) → cond (eqb (cond (eqb n 0) 0 n) 0) q (cond (eqb n 0) 0 n) ≡ cond (eqb n 0) q n
  past-row n q = go (eqb n 0) refl
    where
      go : (b : Bool) → eqb n 0 ≡ b → cond (eqb (cond b 0 n) 0) q (cond b 0 n) ≡ cond b q n
      go true e = refl
      go false e = rw e

  same-number : number s r a l ≡ own-number s a mine
  unfolding step_number own_number
  same-number = rw (x, y, own-arenas, own-tables, lt-leb (count s) r h) (past-row (judged s true true) (cond (paints-on s) 0 13))

  -- refused, the call changes nothing
  module _ (e : eqb (number s r a l) 0 ≡ false) where
    first : one_more (call_step s r a l.state l.render l.fills) (standing l.depth l.painting l.list) ≡ out (refused (number s r a l)) l.depth l.painting l.list
    unfolding one_more stepped
    first = rw e

    row-refused : row-painted s r a l ≡ out (refused (number s r a l)) l.depth l.painting l.list
    unfolding row-painted
    row-refused =
        let step = call_step s r a l.state l.render l.fills in
        let start = standing l.depth l.painting l.list in
        let i : goes_on (one_more step start).answer ≡ false = rw (first, e) in
        stops step most 0 start (omega arith) i ∙ rw first

  same-in-place : (n : ℕ) → in_place s r l (out (refused n) mine.depth mine.painting mine.list) ≡ out (refused n) l.depth l.painting l.list
  same-in-place n =
      rw (put_same (r * wide s) (wide s) l.depth.words, put_same (r * minima-room (wide s)) (minima-room (wide s)) l.depth.minima, put_same (r * 2) 2 l.painting)

  own-row : row-painted s r a l ≡ in_place s r l (own-row-painted s a mine)
  unfolding own-row-painted row-run-on
  own-row = go (eqb (number s r a l) 0) refl
    where
      go : (b : Bool) → eqb (number s r a l) 0 ≡ b
          → row-painted s r a l ≡ in_place s r l (cond (eqb (own-number s a mine) 0) (own-run s a mine) (out (refused (own-number s a mine)) mine.depth mine.painting mine.list))
      go true e = rw (← same-number, e) (calls-are-run s r a l (eqb-true _ _ e))
      go false e = rw (← same-number, e) (row-refused e ∙ sym (same-in-place (number s r a l)))

pub own-is-row : OwnIsRow
own-is-row s r a l h x y = own-row s r a l h x y

pub own-beside : Beside
own-beside s r q a l t h d = let o = row-alone s r a l q h d in rw (o.0, o.1)
