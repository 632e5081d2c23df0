-- A row's own part of a screen's words. Assumes nothing.
use Rattle.std.proofs.Common.{◌≡◌, sym, true, ◌&&◌, List, ℕ, ◌≤◌, ◌<◌, ◌+◌, ◌-◌, ◌*◌, arith, length, take, drop, length-drop, length-take-le, eqb, leb, ne_eqb, eqb-true, leb-true}
use borrow.Rule.Slice.PartMut.{put_mid}
use Rattle.sizes.specs.Sizes.{paint-attr-table, layer-attr-table}
use Rattle.row.proofs.RowsLaws.{within, small}
use Rattle.rules.specs.Minima.{minima-room}
use Rattle.screen.specs.declared.Screen.{Screen}
use Rattle.screen.proofs.Blanks.{few-minima}
use Rattle.screen.specs.Screens.{good_screen}
use Rattle.rules.proofs.All.{and_left, and_right}
use Rattle.sizes.specs.declared.answers.Refusal.{Refusal}
use Rattle.sizes.specs.Refusals.{number_of}
use Rattle.sizes.proofs.Refusals.{not_done}
use Rattle.paint.specs.Painting.{RowLent, StepOut, out, refused}
use Rattle.paint.specs.Judging.{count, wide, depth-long, minima-long, runs_number, write_number, hidden_number, skip_number}
use Rattle.paint.specs.Stepping.{part, with_part, Within, Attributes, number, StepReady, row_step, stepped}
use Rattle.paint.proofs.Judged.{step-there, runs-there, write-there, hidden-there, skip-there}

-- a part as code cuts it out
as_long : (a j : ℕ) → a + j - a ≡ j
as_long a j = omega arith

pub part-is : (k r : ℕ) (xs : List ℕ) → take (r * k + k - r * k) (drop (r * k) xs) ≡ part k r xs
part-is k r xs = rw (as_long (r * k) k)

pub put_is : (k r : ℕ) (xs ys : List ℕ) → put_mid (r * k) (r * k + k - r * k) xs ys ≡ with_part k r xs ys
put_is k r xs ys = rw (as_long (r * k) k)

pub part_length : (k r : ℕ) (xs : List ℕ) → Within k r xs → length (part k r xs) ≡ k
part_length k r xs w = length-take-le k (drop (r * k) xs) (rw length-drop (omega (arith, w.ends)))

-- a row that is there, of words that have their length
pub lies : (n r k : ℕ) (xs : List ℕ) → r < n → n ≤ 512 → k ≤ 4096 → eqb (length xs) (n * k) ≡ true → Within k r xs
lies n r k xs h few short e =
    let l : length xs ≡ n * k = eqb-true _ _ e in
    record { ends = rw l (within r n k h); near = small r n k h few short; short = short }

module _ (s : Screen) (r : ℕ) where
  pub depth_within : (depth : List ℕ) → 0 ≡ runs_number s r (length depth) → Within (wide s) r depth
  depth_within depth h =
      let t = runs-there s r (length depth) (sym h) in
      lies (count s) r (wide s) depth t.there t.passed.few (omega (arith, t.passed.narrow)) t.passed.arenas

  pub minima_within : (minima : List ℕ) → 0 ≡ hidden_number s r (length minima) → Within (minima-room (wide s)) r minima
  minima_within minima h =
      let t = hidden-there s r (length minima) (sym h) in
      lies (count s) r (minima-room (wide s)) minima t.there t.passed.few (omega (arith, few-minima (wide s), t.passed.narrow)) t.passed.arenas

  -- both parts of what the writing run is lent
  pub write_within : (depth minima : List ℕ) → 0 ≡ write_number s r (length depth) (length minima)
      → Within (wide s) r depth × Within (minima-room (wide s)) r minima
  write_within depth minima h =
      let t = write-there s r (length depth) (length minima) (sym h) in
      let de = depth-long s (length depth) in
      let mi = minima-long s (length minima) in (
        lies (count s) r (wide s) depth t.there t.passed.few (omega (arith, t.passed.narrow)) (and_left de mi t.passed.arenas),
        lies (count s) r (minima-room (wide s)) minima t.there t.passed.few (omega (arith, few-minima (wide s), t.passed.narrow)) (and_right de mi t.passed.arenas),
      )

  pub state_within : (rows : List ℕ) → 0 ≡ skip_number s r (length rows) → Within 54 r rows
  state_within rows h =
      let t = skip-there s r (length rows) (sym h) in
      lies (count s) r 54 rows t.there t.passed.few (omega arith) t.passed.tables

pub few-attrs : (s : Screen) → good_screen s ≡ true → (s.paint_attrs ≤ 1024) × (s.layer_attrs ≤ 1024)
unfolding good_screen
few-attrs s h =
    let a = leb 1 s.next_draw_id && leb s.next_draw_id 1048577 in
    let p = leb s.paint_attrs 1024 in
    let l = leb s.layer_attrs 1024 in
    let f = leb s.filter_paints 256 in
    let o = leb s.layers 16 in
    let g : (a && p && l && f && o) ≡ true = and_left (a && p && l && f && o) _ h in
    let g3 : (a && p && l) ≡ true = and_left (a && p && l) f (and_left (a && p && l && f) o g) in
    (leb-true _ _ (and_right a p (and_left (a && p) l g3)), leb-true _ _ (and_right (a && p) l g3))

pub ready : (s : Screen) (r : ℕ) (a : Attributes) (l : RowLent) → number s r a l ≡ 0 → StepReady (wide s) s.c s.d s.paint_attrs s.layer_attrs r a l
ready s r a l h =
    let n = count s in
    let re = eqb (length l.render) (n * (4 * s.c)) in
    let fi = eqb (length l.fills) (n * (2 * s.d)) in
    let de = eqb (length l.depth.words) (n * wide s) in
    let mi = eqb (length l.depth.minima) (n * minima-room (wide s)) in
    let ro = eqb (length l.state) (n * 54) in
    let pa = eqb (length l.painting) (n * 2) in
    let ps = eqb (length a.paints) paint-attr-table in
    let ls = eqb (length a.layers) layer-attr-table in
    let t = step-there s r (re && fi && (de && mi)) (ro && pa && ps && ls) h in
    let o = t.passed in
    let g : (re && fi) ≡ true = and_left (re && fi) (de && mi) o.arenas in
    let dm : (de && mi) ≡ true = and_right (re && fi) (de && mi) o.arenas in
    let k : (ro && pa && ps) ≡ true = and_left (ro && pa && ps) ls o.tables in
    let m : (ro && pa) ≡ true = and_left (ro && pa) ps k in
    let few = few-attrs s o.screen in
    record {
      state = lies n r 54 l.state t.there o.few (omega arith) (and_left ro pa m);
      render = lies n r (4 * s.c) l.render t.there o.few (omega (arith, o.c-room.few)) (and_left re fi g);
      fills = lies n r (2 * s.d) l.fills t.there o.few (omega (arith, o.d-room.few)) (and_right re fi g);
      depth = lies n r (wide s) l.depth.words t.there o.few (omega (arith, o.narrow)) (and_left de mi dm);
      minima = lies n r (minima-room (wide s)) l.depth.minima t.there o.few (omega (arith, few-minima (wide s), o.narrow)) (and_right de mi dm);
      painting = lies n r 2 l.painting t.there o.few (omega arith) (and_right ro pa m);
      few-commands = o.c-room.few;
      few-fills = o.d-room.few;
      paint-table = eqb-true _ _ (and_right (ro && pa) ps k);
      layer-table = eqb-true _ _ (and_right (ro && pa && ps) ls o.tables);
      paints = few.0;
      layers = few.1;
    }

-- the call, refused or done
module _ (s : Screen) (r : ℕ) (a : Attributes) (l : RowLent) where
  pub step_refused : (k : Refusal) → number_of k ≡ number s r a l → out (refused (number_of k)) l.depth l.painting l.list ≡ stepped s r a l
  unfolding stepped
  step_refused k e = rw (← e, ne_eqb (number_of k) 0 (not_done k))

  pub step_done : (o : StepOut) → 0 ≡ number s r a l → o ≡ row_step s r a l → o ≡ stepped s r a l
  unfolding stepped
  step_done o h p = rw (← h) p
