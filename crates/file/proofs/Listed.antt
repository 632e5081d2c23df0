-- A file's segment section as a list of its own, and its lists' order.
use Rattle.std.proofs.Common.{ℕ, zero, suc, ◌+◌, ◌-◌, ◌*◌, ◌/◌, ◌≤◌, ◌<◌, add-zero, add_assoc, mul-zero, arith, ◌≡◌, refl, ap, ◌∙◌, Bool, true, false, not, cond, List, [], ◌∷◌, length, get_or}
use Rattle.std.proofs.Common.{take, drop, length-take, length-drop, get_or-take, get_or-drop, leb, eqb, leb-true, eqb-true}
use borrow.Author.Tests.{eqb-false}
use Rattle.std.specs.List.{list_all, range_with_len}
use Rattle.rules.specs.Lists.{every, slice}
use Rattle.rules.specs.Segments.{Segment, good-segment, ordered, judge-segments}
use Rattle.rules.specs.Spans.{good-range}
use Rattle.segments.specs.Segs.{seg-at, segs, segs-of}
use Rattle.segments.proofs.Laws.{segs-slice}
use Rattle.file.specs.Each.{each}
use Rattle.file.specs.Places.{segment_from}
use Rattle.rules.proofs.All.{both}

-- the segments of a part are the file's
module _ (ws : List ℕ) (a n m : ℕ) (e : m ≡ 5 * n) (fits : a + m ≤ length ws) where
  abbrev part : List ℕ
  part = take m (drop a ws)

  in-part : (i j : ℕ) → 5 * i + j < m → get_or part (5 * i + j) 0 ≡ get_or ws (a + 5 * i + j) 0
  in-part i j h = rw (get_or-take m (drop a ws) (5 * i + j) 0 h, get_or-drop a ws (5 * i + j) 0, add_assoc a (5 * i) j)

  one-part : (i : ℕ) → i < n → seg-at part i ≡ segment_from ws (a + 5 * i)
  unfolding seg-at segment_from
  one-part i h =
      let z : get_or part (5 * i) 0 ≡ get_or ws (a + 5 * i) 0 = rw (add-zero (5 * i), add-zero (a + 5 * i)) at (in-part i 0 (omega arith)) in
      rw (z, in-part i 1 (omega arith), in-part i 2 (omega arith), in-part i 3 (omega arith), in-part i 4 (omega arith))

  from-part : (k i : ℕ) → i + k ≤ n → segs part i k ≡ each segment_from 5 ws (a + 5 * i) k
  unfolding segs each
  from-part zero i h = refl
  from-part (suc k) i h =
      let p : a + 5 * (i + 1) ≡ a + 5 * i + 5 = omega arith in
      rw (one-part i (omega arith), from-part k (i + 1) (omega arith), p)

  pub part_length : length part ≡ m
  part_length = simp (length-take, length-drop) (omega arith)

  pub part_count : length part / 5 ≡ n
  part_count = rw (part_length, e) (omega arith)

  -- the segment section, lent as a part of the words, is the recording's segment list
  pub part-segments : segs-of part ≡ each segment_from 5 ws a n
  part-segments = rw part_count (rw (mul-zero, add-zero) at (from-part n 0 (omega arith)))

-- the part that the code lends: n segments from place a on
abbrev pub lent : List ℕ → ℕ → ℕ → List ℕ
lent ws a n = take (a + 5 * n - a) (drop a ws)

module _ (ws : List ℕ) (a n : ℕ) (fits : a + n * 5 ≤ length ws) where
  width : a + 5 * n - a ≡ 5 * n
  width = omega arith

  room : a + (a + 5 * n - a) ≤ length ws
  room = omega arith

  pub lent-count : length (lent ws a n) / 5 ≡ n
  lent-count = part_count ws a n (a + 5 * n - a) width room

  pub lent-segments : segs-of (lent ws a n) ≡ each segment_from 5 ws a n
  lent-segments = part-segments ws a n (a + 5 * n - a) width room

-- a test of every place of the list
segs-tested : (ws : List ℕ) (i k : ℕ) → list_all (λ (j : ℕ). good-segment (seg-at ws j)) (range_with_len i k) ≡ every good-segment (segs ws i k)
unfolding segs
segs-tested ws i zero = refl
segs-tested ws i (suc k) = rw (segs-tested ws (i + 1) k)

pub segments-tested : (ws : List ℕ) (a n : ℕ) → a + n * 5 ≤ length ws
    → list_all (λ (j : ℕ). good-segment (seg-at (lent ws a n) j)) (range_with_len 0 n) ≡ every good-segment (each segment_from 5 ws a n)
segments-tested ws a n h =
    segs-tested (lent ws a n) 0 n
    ∙ ap (every good-segment) (rw (lent-count ws a n h) at (lent-segments ws a n h))

module _ {A : Type 0} (test : A → Bool) where
  every_drop : (n : ℕ) (xs : List A) → every test xs ≡ true → every test (drop n xs) ≡ true
  every_drop zero xs q = q
  every_drop (suc n) [] q = q
  every_drop (suc n) (x ∷ xs) q = every_drop n xs (both (test x) (every test xs) q).1

  every_take : (n : ℕ) (xs : List A) → every test xs ≡ true → every test (take n xs) ≡ true
  every_take zero xs q = refl
  every_take (suc n) [] q = q
  every_take (suc n) (x ∷ xs) q =
      let h = both (test x) (every test xs) q in
      rw h.0 (every_take n xs h.1)

-- a broken order is no number 0
pub four-or-five : (t : Bool) → false ≡ eqb (cond t 4 5) 0
four-or-five true = refl
four-or-five false = refl

-- each of a list of good segments
good-there : (ws : List ℕ) (i k n : ℕ) → every good-segment (segs ws i k) ≡ true → i ≤ n → n < i + k → good-segment (seg-at ws n) ≡ true
unfolding segs
good-there ws i zero n q l h = absurd (omega arith)
good-there ws i (suc k) n q l h = go (eqb i n) refl (good-there ws (i + 1) k n (both (good-segment (seg-at ws i)) (every good-segment (segs ws (i + 1) k)) q).1)
  where
    go : (t : Bool) → eqb i n ≡ t → (i + 1 ≤ n → n < i + 1 + k → good-segment (seg-at ws n) ≡ true) → good-segment (seg-at ws n) ≡ true
    go true e m = let z = eqb-true i n e in rw z at (both (good-segment (seg-at ws i)) (every good-segment (segs ws (i + 1) k)) q).0
    go false e m = let z = eqb-false i n e in m (omega arith) (omega arith)

only-order : (t : Bool) → eqb (cond (not t) 5 0) 0 ≡ t
only-order true = refl
only-order false = refl

judged-good : (ss : List Segment) → every good-segment ss ≡ true → eqb (judge-segments false ss) 0 ≡ ordered ss
unfolding judge-segments
judged-good ss q = rw q (only-order (ordered ss))

-- a range of a list of good segments: only its order is left to be judged
module _ (ws : List ℕ) (a b : ℕ) (g : good-range a b (length ws / 5) ≡ true) where
  pub range-order : a ≤ b
  range-order = leb-true a b (both (leb a b) (leb b (length ws / 5)) g).0

  range-end : b ≤ length ws / 5
  range-end = leb-true b (length ws / 5) (both (leb a b) (leb b (length ws / 5)) g).1

  pub range-good : every good-segment (segs-of ws) ≡ true → (i : ℕ) → i < b → {s : Segment} → s ≡ seg-at ws i → good-segment s ≡ true
  range-good q i h e = rw e (good-there ws 0 (length ws / 5) i q (omega arith) (omega (arith, range-end)))

  pub range-judged : every good-segment (segs-of ws) ≡ true
      → eqb (judge-segments false (segs ws a (b - a))) 0 ≡ ordered (slice a b (segs-of ws))
  range-judged q =
      rw (segs-slice ws a b range-order range-end)
      (judged-good (slice a b (segs-of ws)) (every_take good-segment (b - a) (drop a (segs-of ws)) (every_drop good-segment a (segs-of ws) q)))
