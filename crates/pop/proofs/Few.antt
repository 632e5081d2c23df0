-- Room for the most segments that a row has is room for what is cut of them. Assumes nothing.
use Rattle.std.proofs.Common.{◌≡◌, refl, Bool, true, false, ◌||◌, ◌&&◌, cond, List, [], ◌∷◌, ◌++◌, Option, None, Some, ℕ, ◌+◌, ◌-◌, ◌/◌, ◌≤◌, arith, length, ltb, leb, eqb, le-ltb, ltb-false, leb-true}
use Rattle.std.proofs.lemmas.Bool.Decides.{nat_tests}
use Rattle.rules.specs.Lists.{join}
use Rattle.rules.specs.Answers.{Done, BadRecord, FullRow}
use Rattle.rules.specs.Boxes.{Box}
use Rattle.rules.specs.Spans.{span, Stretch, cut_to}
use Rattle.rules.specs.Segments.{Segment, ordered, Cut, judge-segments, localised, cut_in, stretch-of}
use Rattle.rules.proofs.All.{all_map, all_any, none_of, both}
use Rattle.row.specs.Words.{Words, word}
use Rattle.segments.specs.Segs.{segs, on-row, AtMost, Starts}
use Rattle.segments.proofs.Laws.{segs-length}
use Rattle.pop.specs.Closing.{row_of, touched-in, good-pops, full_by, pops-number, runs-full}
use Rattle.pop.proofs.Running.{cuts-on, cuts-sorted, Fits, fit-runs, some-none, at-found, so-far-else}

abbrev one_if : Bool → ℕ
one_if b = cond b 1 0

cuts-append : (x : ℕ) (ks ls : List Cut) → cuts-on x (ks ++ ls) ≡ cuts-on x ks + cuts-on x ls
unfolding cuts-on
cuts-append x [] ls = omega arith
cuts-append x (k ∷ ks) ls = rw (cuts-append x ks ls) (omega arith)

module _ (v b : Box) (t : Starts v b) (x : ℕ) where
  at-most-one : (row : ℕ) (o : Option Stretch) → v.y0 / 4 ≤ row → cuts-on x (localised v row o) ≤ one_if (eqb row (x + v.y0 / 4))
  unfolding cuts-on
  at-most-one row None h = omega arith
  at-most-one row (Some k) h = grind (arith, nat_tests)

  -- what is left of a segment lies on its own row
  one-cut : (s : Segment) → cuts-on x (cut_in v b s) ≤ one_if (eqb s.row (x + v.y0 / 4))
  unfolding cut_in cuts-on
  one-cut s = go (leb b.y0 s.row && ltb s.row b.y1) refl (cut_to (span b.x0 b.x1) (stretch-of s))
    where
      go : (p : Bool) → (leb b.y0 s.row && ltb s.row b.y1) ≡ p → (o : Option Stretch) → cuts-on x (localised v s.row (cond p o None)) ≤ one_if (eqb s.row (x + v.y0 / 4))
      go true e o = at-most-one s.row o (omega (arith, t.top, leb-true b.y0 s.row (both (leb b.y0 s.row) (ltb s.row b.y1) e).0))
      go false e o = omega arith

  few-cuts : (ss : List Segment) → cuts-on x (join (cut_in v b) ss) ≤ on-row (x + v.y0 / 4) ss
  unfolding cuts-on on-row
  few-cuts [] = omega arith
  few-cuts (s ∷ ss) = omega (arith, cuts-append x (cut_in v b s) (join (cut_in v b) ss), one-cut s, few-cuts ss)

-- no row has more of some segments than all of them
on-some : (r : ℕ) (ss : List Segment) → on-row r ss ≤ length ss
unfolding on-row
on-some r [] = omega arith
on-some r (s ∷ ss) = omega (arith, on-some r ss, one (eqb s.row r))
  where
    one : (b : Bool) → one_if b ≤ 1
    one true = omega arith
    one false = omega arith

-- .. of a range that is good and in order, which is from a to b
pub all-most : (ws : List ℕ) (a b i j : ℕ) → judge-segments false (segs ws i (j - i)) ≡ 0 → i ≡ a → j ≡ b → AtMost (b - a) (segs ws a (b - a))
all-most ws a b i j h p q =
    let k : judge-segments false (segs ws a (b - a)) ≡ 0 = rw (p, q) at h in
    record { judged = k; most = λ r. omega (arith, on-some r (segs ws a (b - a)), segs-length ws a (b - a)) }

-- rows with room for m commands and a PopBuf, of which none gets more than m segments
pub few-fit : (c m : ℕ) (xs : List ℕ) (rs : List Words) (v b : Box) (ss : List Segment) → Starts v b → ordered ss ≡ true → ((r : ℕ) → on-row r ss ≤ m)
    → full_by c (m + 1) rs xs ≡ false → (full_by c 1 rs xs || runs-full c xs rs 0 0 (join (cut_in v b) ss)) ≡ false
unfolding full_by
few-fit c m xs rs v b ss t o h e =
    let a = none_of (λ (x : ℕ). ltb c (word 0 (row_of rs x) + (m + 1))) xs e in
    let f : Fits c xs rs 0 0 (join (cut_in v b) ss) =
    λ x i g.
    omega (arith, so-far-else rs x 0 0 (λ (z : x + 1 ≡ 0). omega arith), few-cuts v b t x ss, h (x + v.y0 / 4), ltb-false c (word 0 (row_of rs x) + (m + 1)) (at-found a x i)) in
    rw (
      some-none (λ (x : ℕ). ltb c (word 0 (row_of rs x) + 1))
          (all_map (λ (x : ℕ) (i : ltb c (word 0 (row_of rs x) + (m + 1)) ≡ false). le-ltb c (word 0 (row_of rs x) + 1) (omega (arith, ltb-false c (word 0 (row_of rs x) + (m + 1)) i))) a),
      fit-runs c xs rs 0 0 (cuts-sorted v b ss o) (all_any (λ (k : Cut). omega arith) (join (cut_in v b) ss)) f,
    )

-- rows of which nothing is refused
pub pops-none : (c d n k : ℕ) (rs : List Words) (is : List ℕ) → pops-number c d n k rs is ≡ 0 → (good-pops c d n rs is ≡ true) × (full_by c k rs (touched-in n rs is) ≡ false)
unfolding pops-number
pops-none c d n k rs is e = by (good-pops c d n rs is) (full_by c k rs (touched-in n rs is)) e
  where
    by : (g f : Bool) → cond g (cond f FullRow Done) BadRecord ≡ Done → (g ≡ true) × (f ≡ false)
    by true false e = (refl, refl)
    by true true e = absurd (omega arith)
    by false f e = absurd (omega arith)
