-- What the judges' numbers say. Assumes nothing.
use Rattle.std.proofs.Common.{◌≡◌, refl, Bool, true, false, ◌&&◌, not, cond, ℕ, ◌≤◌, ◌<◌, ◌*◌, mul-le-mul, arith, leb, eqb, eqb-true, leb-false}
use borrow.Author.Tests.{eqb-false, not-false}
use Rattle.sizes.specs.declared.width.Width.{Width}
use Rattle.sizes.specs.Widths.{bucket-tiles}
use Rattle.rules.specs.Boxes.{Box, good_viewport, rows_of, buckets-of}
use Rattle.rules.specs.Minima.{minima-room}
use Rattle.rules.proofs.laws.Widths.{each}
use Rattle.rules.specs.Walk.{good-room}
use Rattle.rect.specs.Rects.{box_of}
use Rattle.screen.specs.declared.Screen.{Screen}
use Rattle.screen.specs.Screens.{good_screen}
use Rattle.rules.proofs.All.{and_left, and_right}
use Rattle.screen.proofs.ScreenLaws.{Room, room, few_rows, few-buckets}
use Rattle.screen.proofs.Blanks.{few-minima}
use Rattle.screen.proofs.Passed.{none_said}
use Rattle.paint.specs.Judging.{count, wide, depth-long, minima-long, depths-long, rows_long, painting-long, judged, begin_number, of_row, paints-on, step_number, runs_number, write_number, hidden_number, skip_number}

-- What it says that a number is 0.
pub record Passed (s : Screen) (a t : Bool) : Type 0 where
  pub few : count s ≤ 512
  pub narrow : wide s ≤ 64
  pub c-room : Room s.c
  pub d-room : Room s.d
  pub arenas : a ≡ true
  pub tables : t ≡ true
  pub screen : good_screen s ≡ true

pub passed : (s : Screen) (a t : Bool) → judged s a t ≡ 0 → Passed s a t
unfolding judged
passed s a t h =
    let c = good-room s.c in
    let d = good-room s.d in
    let all = none_said (not (good_viewport (box_of s.viewport))) (not (c && d && a)) (not (t && good_screen s)) h in
    let v : good_viewport (box_of s.viewport) ≡ true = not-false _ all.0 in
    let r : (c && d && a) ≡ true = not-false _ all.1 in
    let r2 : (c && d) ≡ true = and_left (c && d) a r in
    let l : (t && good_screen s) ≡ true = not-false _ all.2 in
    record {
      few = few_rows _ v;
      narrow = few-buckets _ v s.width;
      c-room = room _ (and_left c d r2);
      d-room = room _ (and_right c d r2);
      arenas = and_right (c && d) a r;
      tables = and_left t (good_screen s) l;
      screen = and_right t (good_screen s) l;
    }

-- past the row's test
past_row : (n : ℕ) (s : Screen) (r : ℕ) → of_row n s r ≡ 0 → (n ≡ 0) × (r < count s)
past_row n s r = go (eqb n 0) (leb (count s) r) refl refl
  where
    go : (x y : Bool) → eqb n 0 ≡ x → leb (count s) r ≡ y → cond x (cond y 12 0) n ≡ 0 → (n ≡ 0) × (r < count s)
    go true true e f h = absurd (omega arith)
    go true false e f h = (eqb-true _ _ e, leb-false _ _ f)
    go false y e f h = absurd (eqb-false _ _ e h)

pub past-begun : (n : ℕ) (b : Bool) → cond (eqb n 0) (cond b 0 13) n ≡ 0 → n ≡ 0
past-begun n b = go (eqb n 0) b refl
  where
    go : (x y : Bool) → eqb n 0 ≡ x → cond x (cond y 0 13) n ≡ 0 → n ≡ 0
    go true y e h = eqb-true _ _ e
    go false y e h = h

-- a row of a screen that a call takes
pub record There (s : Screen) (r : ℕ) (a t : Bool) : Type 0 where
  pub there : r < count s
  pub passed : Passed s a t

pub there-by : (s : Screen) (r : ℕ) (a t : Bool) → of_row (judged s a t) s r ≡ 0 → There s r a t
there-by s r a t h = let p = past_row (judged s a t) s r h in record { there = p.1; passed = passed s a t p.0 }

module _ (s : Screen) (r : ℕ) where
  pub step-there : (a t : Bool) → step_number s r a t ≡ 0 → There s r a t
  unfolding step_number
  step-there a t h = there-by s r a t (past-begun _ (paints-on s) h)

  pub runs-there : (depth : ℕ) → runs_number s r depth ≡ 0 → There s r (depth-long s depth) true
  unfolding runs_number
  runs-there depth h = there-by s r _ _ h

  pub write-there : (depth minima : ℕ) → write_number s r depth minima ≡ 0 → There s r (depths-long s depth minima) true
  unfolding write_number
  write-there depth minima h = there-by s r _ _ h

  pub hidden-there : (minima : ℕ) → hidden_number s r minima ≡ 0 → There s r (minima-long s minima) true
  unfolding hidden_number
  hidden-there minima h = there-by s r _ _ h

  pub skip-there : (rows : ℕ) → skip_number s r rows ≡ 0 → There s r true (rows_long s rows)
  unfolding skip_number
  skip-there rows h = there-by s r _ _ h

-- what beginning is lent: the rows and their buckets are few, and the words of depth have their lengths
pub begin-lent : (s : Screen) (depth minima painting : ℕ) → begin_number s depth minima painting ≡ 0
    → (count s ≤ 512) × (wide s ≤ 64) × (depth ≡ count s * wide s) × (minima ≡ count s * minima-room (wide s))
unfolding begin_number
begin-lent s depth minima painting h =
    let p = passed s (depths-long s depth minima) (painting-long s painting) (past-begun _ (eqb s.layers 0) h) in
    let de = depth-long s depth in
    let mi = minima-long s minima in
    (p.few, p.narrow, eqb-true _ _ (and_left de mi p.arenas), eqb-true _ _ (and_right de mi p.arenas))

-- how many minima any screen's numbers ask for, also where its viewport is not good
pub few-lent : (v : Box) (w : Width) → v.x1 < 4294967296 → v.y1 < 4294967296 → rows_of v * minima-room (buckets-of (bucket-tiles w) v) ≤ 1152921504606846976
few-lent v w h g =
    let m = few-minima (buckets-of (bucket-tiles w) v) in
    let b : buckets-of (bucket-tiles w) v ≤ 268435456 = each (λ w. buckets-of w v ≤ 268435456) (omega arith) (omega arith) (omega arith) w in
    mul-le-mul {n₁ = rows_of v} {m₁ = minima-room (buckets-of (bucket-tiles w) v)} {n₂ = 1073741824} {m₂ = 1073741824} (omega arith) (omega arith)
