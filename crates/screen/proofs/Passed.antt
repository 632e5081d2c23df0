-- What it says that a screen, or a reset, is judged 0.
use Rattle.std.proofs.Common.{◌≡◌, refl, Bool, true, false, ◌&&◌, not, [], ◌∷◌, ℕ, ◌*◌, ◌≤◌, arith, eqb, eqb-true}
use borrow.Author.Tests.{not-false}
use Rattle.rules.specs.Answers.{first_of}
use Rattle.rules.specs.Boxes.{good_viewport, rows_of}
use Rattle.rules.specs.Minima.{minima-room}
use Rattle.rules.specs.Plans.{Frame, buckets-across}
use Rattle.rules.specs.Walk.{good-room, good-arenas}
use Rattle.rect.specs.Rects.{box_of}
use Rattle.screen.specs.declared.Screen.{Screen}
use Rattle.screen.specs.declared.lent.Lengths.{Lengths}
use Rattle.screen.specs.Screens.{good_screen}
use Rattle.screen.specs.Judging.{good-rooms, judged, good-tables, arenas, judged_reset}
use Rattle.rules.proofs.All.{and_left, and_right}
use Rattle.screen.proofs.ScreenLaws.{Room, room, few_rows, few-buckets}

-- no test of a judge said yes
pub none_said : (x y z : Bool) → first_of ((x, 2) ∷ (y, 1) ∷ (z, 4) ∷ []) ≡ 0 → (x ≡ false) × (y ≡ false) × (z ≡ false)
none_said true y z h = absurd (omega arith)
none_said false true z h = absurd (omega arith)
none_said false false true h = absurd (omega arith)
none_said false false false h = (refl, refl, refl)

-- a screen of n rows that a building step takes
pub record Passed (s : Screen) (rows render fills n : ℕ) : Type 0 where
  pub rows-of-it : n ≡ rows_of (box_of s.viewport)
  pub view : good_viewport (box_of s.viewport) ≡ true
  pub c-room : Room s.c
  pub d-room : Room s.d
  pub render-words : render ≡ n * (4 * s.c)
  pub fill-words : fills ≡ n * (2 * s.d)
  pub row_words : rows ≡ n * 54
  pub screen : good_screen s ≡ true

module _ (s : Screen) (rows render fills : ℕ) where
  pub passed : judged s rows render fills ≡ 0 → Passed s rows render fills (rows_of (box_of s.viewport))
  unfolding judged
  passed h =
      let n = rows_of (box_of s.viewport) in
      let t = eqb rows (n * 54) in
      let c = good-room s.c in
      let d = good-room s.d in
      let re = eqb render (n * (4 * s.c)) in
      let fi = eqb fills (n * (2 * s.d)) in
      let all = none_said (not (good_viewport (box_of s.viewport))) (not (good-rooms n s.c s.d render fills)) (not (t && good_screen s)) h in
      let r4 : (c && d && re && fi) ≡ true = not-false _ all.1 in
      let r3 : (c && d && re) ≡ true = and_left (c && d && re) fi r4 in
      let r2 : (c && d) ≡ true = and_left (c && d) re r3 in
      let l : (t && good_screen s) ≡ true = not-false _ all.2 in
      record {
        rows-of-it = refl;
        view = not-false _ all.0;
        c-room = room _ (and_left c d r2);
        d-room = room _ (and_right c d r2);
        render-words = eqb-true _ _ (and_right (c && d) re r3);
        fill-words = eqb-true _ _ (and_right (c && d && re) fi r4);
        row_words = eqb-true _ _ (and_left t (good_screen s) l);
        screen = and_right t (good_screen s) l;
      }

module _ (f : Frame) (l : Lengths) where
  -- each test of a reset that is judged 0
  pub reset-says : judged_reset f l ≡ 0
      → (good_viewport f.viewport ≡ true) × (good-arenas f (arenas l) ≡ true) × (good-tables (rows_of f.viewport) l ≡ true)
  unfolding judged_reset
  reset-says h =
      let all = none_said (not (good_viewport f.viewport)) (not (good-arenas f (arenas l))) (not (good-tables (rows_of f.viewport) l)) h in
      (not-false _ all.0, not-false _ all.1, not-false _ all.2)

  -- how many depth words and minima it is lent
  pub record DepthLong : Type 0 where
    pub few : rows_of f.viewport ≤ 512
    pub narrow : buckets-across f ≤ 64
    pub words : l.depth ≡ rows_of f.viewport * buckets-across f
    pub minima : l.minima ≡ rows_of f.viewport * minima-room (buckets-across f)

  pub depth_long : judged_reset f l ≡ 0 → DepthLong
  depth_long h =
      let says = reset-says h in
      let n = rows_of f.viewport in
      let re = eqb l.render_cmds (n * (4 * f.c)) in
      let fi = eqb l.depth_cmds (n * (2 * f.d)) in
      let de = eqb l.depth (n * buckets-across f) in
      let mi = eqb l.minima (n * minima-room (buckets-across f)) in
      let s : (re && fi && de && mi) ≡ true = and_right (good-room f.c && good-room f.d) (re && fi && de && mi) says.1 in
      record {
        few = few_rows _ says.0;
        narrow = few-buckets _ says.0 f.width;
        words = eqb-true _ _ (and_right (re && fi) de (and_left (re && fi && de) mi s));
        minima = eqb-true _ _ (and_right (re && fi && de) mi s);
      }
