-- Counting the segments of each row on the way through a list. Assumes nothing.
use Rattle.std.proofs.Common.{◌≡◌, refl, sym, ◌∙◌, Bool, true, false, cond, List, ℕ, zero, suc, ◌+◌, ◌-◌, ◌≤◌, ◌<◌, arith, eqb, eqb-true, ne_eqb}
use Rattle.std.proofs.lemmas.Bool.Decides.{nat_tests}
use Rattle.rules.specs.Segments.{Segment, good-segment, follows}
use Rattle.segments.specs.Segs.{seg-at, segs, on-row, AtMost}
use Rattle.segments.proofs.Judging.{AtPlace, again, all-ordered, nowhere, none_before}

abbrev one_if : Bool → ℕ
one_if b = cond b 1 0

-- one segment more at the end
on-more : (ws : List ℕ) (r i k : ℕ) → on-row r (segs ws i (suc k)) ≡ on-row r (segs ws i k) + one_if (eqb (seg-at ws (i + k)).row r)
unfolding segs on-row
on-more ws r i zero = let e : i + 0 ≡ i = omega arith in rw e (omega arith)
on-more ws r i (suc k) = let e : i + suc k ≡ i + 1 + k = omega arith in rw (e, on-more ws r (i + 1) k) (omega arith)

none-on : (ws : List ℕ) (r a i : ℕ) → i ≤ a → on-row r (segs ws a (i - a)) ≡ 0
unfolding segs on-row
none-on ws r a i h = let e : i - a ≡ 0 = omega arith in rw e

one-on : (ws : List ℕ) (r a i : ℕ) → a ≤ i → on-row r (segs ws a (i + 1 - a)) ≡ on-row r (segs ws a (i - a)) + one_if (eqb (seg-at ws i).row r)
one-on ws r a i h =
    let e : i + 1 - a ≡ suc (i - a) = omega arith in
    let f : a + (i - a) ≡ i = omega arith in
    rw e (on-more ws r a (i - a) ∙ rw f)

-- the loop at place i of n, on its way from a: the last segment's row has at most `own` so far, and none more than `most`
pub record Counting (ws : List ℕ) (a n : ℕ) (s : Segment) (own most i : ℕ) : Type 0 where
  pub place : AtPlace ws a n s true i
  pub start : a ≤ i
  pub few : own + a ≤ i
  pub here : on-row s.row (segs ws a (i - a)) ≤ own
  pub all : (r : ℕ) → on-row r (segs ws a (i - a)) ≤ most
  pub above : (r : ℕ) → s.row < r → on-row r (segs ws a (i - a)) ≡ 0

pub counting-begun : (ws : List ℕ) (a n : ℕ) → a ≤ n → Counting ws a n nowhere 0 0 a
counting-begun ws a n h =
    record {
      place = record { before = h; rest = none_before (segs ws a (n - a)) };
      start = omega arith;
      few = omega arith;
      here = omega (arith, none-on ws 0 a a (omega arith));
      all = λ r. omega (arith, none-on ws r a a (omega arith));
      above = λ r l. none-on ws r a a (omega arith);
    }

module _ {ws : List ℕ} {a n i own most : ℕ} {s : Segment} (v : Counting ws a n s own most i) where
  pub counted-all : n ≤ i → AtMost most (segs ws a (n - a))
  counted-all h =
      let e : i ≡ n = omega (arith, v.place.before) in
      record { judged = sym (all-ordered v.place h refl); most = λ r. rw e at (v.all r) }

  module _ {t : Segment} (h : i < n) (e : t ≡ seg-at ws i) (g : good-segment t ≡ true) where
    more-on : (r : ℕ) → on-row r (segs ws a (i + 1 - a)) ≡ on-row r (segs ws a (i - a)) + one_if (eqb t.row r)
    more-on r = rw e (one-on ws r a i v.start)

    by-row : (k : ℕ) (m : ℕ) → follows s t ≡ true → s.row ≤ t.row → k + a ≤ i → on-row t.row (segs ws a (i - a)) ≤ k → most ≤ m → k + 1 ≤ m
        → Counting ws a n t (k + 1) m (i + 1)
    by-row k m f l w c x y =
        record {
          place = again v.place h e g (sym f);
          start = omega (arith, v.start);
          few = omega arith;
          here = omega (arith, more-on t.row, one t.row);
          all = λ r. all-rows r (eqb t.row r) refl;
          above = λ r z. omega (arith, more-on r, v.above r (omega arith), other r (ne_eqb t.row r (λ q. omega arith)));
        }
      where
        one : (r : ℕ) → one_if (eqb t.row r) ≤ 1
        one r = grind (arith, nat_tests)

        other : (r : ℕ) → eqb t.row r ≡ false → one_if (eqb t.row r) ≡ 0
        other r q = rw q

        all-rows : (r : ℕ) (b : Bool) → eqb t.row r ≡ b → on-row r (segs ws a (i + 1 - a)) ≤ m
        all-rows r true q = let z = eqb-true t.row r q in omega (arith, more-on r, rw z at c, one r)
        all-rows r false q = omega (arith, more-on r, other r q, v.all r)

    -- on a row further down
    pub next-row : (m : ℕ) → s.row < t.row → most ≤ m → 1 ≤ m → Counting ws a n t 1 m (i + 1)
    next-row m l x y = by-row 0 m (grind (arith, nat_tests)) (omega arith) (omega (arith, v.start)) (omega (arith, v.above t.row l)) x y

    -- on the same row
    pub same-row : (m : ℕ) → t.row ≡ s.row → s.end ≤ t.first → most ≤ m → own + 1 ≤ m → Counting ws a n t (own + 1) m (i + 1)
    same-row m l f x y = by-row own m (grind (arith, nat_tests)) (omega arith) v.few (rw l v.here) x y
