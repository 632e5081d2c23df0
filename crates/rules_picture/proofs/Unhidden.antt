-- A span of which every bucket is visible is one visible run.
use Rattle.std.proofs.Common.{ℕ, suc, ◌+◌, ◌-◌, ◌*◌, ◌/◌, ◌≤◌, ◌<◌, min, max, le_refl, div-mul-le_self, suc-add, add-suc, add-one, arith, ◌≡◌, refl, sym, ◌∙◌, ap, Bool, true, List, [], ◌∷◌, length}
use Rattle.std.proofs.Common.{get_or, drop, length-take, length-drop, get_or-take, get_or-drop, lt-ltb, eq-eqb}
use Rattle.rules.specs.Lists.{slice}
use Rattle.rules.specs.Spans.{Span, span, covers, common}
use Rattle.rules.specs.Depth.{bucket-runs, runs-in, runs, buckets-met, tiles-of, is-visible, visible-runs}
use Rattle.rules.specs.Plans.{bucket}
use Rattle.rules.proofs.All.{All, nil, cons}
use Rattle.rules_picture.proofs.Cases.{covers-yes}
use Rattle.rules_picture.proofs.Buckets.{from-bucket, from-bucket-before, to-bucket, to-bucket-before, touched-end, le-raised}

-- what holds at each place holds of each element
all-places : (P : ℕ → Type 0) (xs : List ℕ) → ((j : ℕ) → j < length xs → P (get_or xs j 0)) → All P xs
all-places P [] f = nil
all-places P (x ∷ xs) f = cons (f 0 (omega arith)) (all-places P xs (λ j h. f (suc j) (omega arith)))

-- open buckets are one run
one-run : (p : ℕ → Bool) (i : ℕ) {b : ℕ} {bs : List ℕ} → All (λ (x : ℕ). p x ≡ true) (b ∷ bs) → bucket-runs p i (b ∷ bs) ≡ span i (i + suc (length bs)) ∷ []
unfolding bucket-runs
one-run p i (cons e nil) = rw (e, add-one i)
one-run p i (cons {xs = c ∷ bs} e (cons d a)) =
    rw (e, one-run p (suc i) (cons d a), eq-eqb (suc i) (suc i) refl)
    (ap (λ (n : ℕ). span i n ∷ []) (suc-add i (suc (length bs)) ∙ sym (add-suc i (suc (length bs)))))

range-run : (p : ℕ → Bool) (bs : List ℕ) (r : Span) → r.first < r.end → r.end ≤ length bs → ((k : ℕ) → r.first ≤ k → k < r.end → p (get_or bs k 0) ≡ true)
    → runs-in p bs r ≡ r ∷ []
unfolding runs-in
range-run p bs r h on f =
    let len : length (slice r.first r.end bs) ≡ r.end - r.first = length-take (r.end - r.first) (drop r.first bs) ∙ rw (length-drop r.first bs) (omega arith) in
    go (slice r.first r.end bs) len
    (all-places (λ (x : ℕ). p x ≡ true) (slice r.first r.end bs) (λ j m.
    let at : get_or (slice r.first r.end bs) j 0 ≡ get_or bs (r.first + j) 0 =
    get_or-take (r.end - r.first) (drop r.first bs) j 0 (omega arith) ∙ get_or-drop r.first bs j 0 in
    ap p at ∙ f (r.first + j) (omega arith) (omega arith)))
  where
    go : (xs : List ℕ) → length xs ≡ r.end - r.first → All (λ (x : ℕ). p x ≡ true) xs → bucket-runs p r.first xs ≡ r ∷ []
    go [] e a = let z : 0 ≡ r.end - r.first = e in absurd (omega arith)
    go (x ∷ xs) e a = let z : r.first + suc (length xs) ≡ r.end = let y : suc (length xs) ≡ r.end - r.first = e in omega arith in one-run p r.first a ∙ ap (λ (n : ℕ). span r.first n ∷ []) z

module _ (w : ℕ) (pos : 0 < w) where
  -- a bucket that the span meets has a tile of the span
  tile-in : (s : Span) (k : ℕ) → s.first < s.end → s.first / w ≤ k → k < (s.end + (w - 1)) / w
      → (s.first ≤ max s.first (k * w)) × (max s.first (k * w) < s.end) × (max s.first (k * w) / w ≡ k)
  tile-in s k h a b =
      let c : suc k * w ≤ s.end + (w - 1) = from-bucket w pos b in
      let d : s.first < suc k * w = from-before in
      let lo : k ≤ max s.first (k * w) / w = to-bucket w pos (omega arith) in
      let hi : max s.first (k * w) / w < suc k = to-bucket-before w pos (omega arith) in
      (omega arith, omega arith, omega arith)
    where
      from-before : s.first < suc k * w
      from-before = let m : s.first / w < suc k = omega arith in from-bucket-before w pos m

  pub all-visible : (bs : List ℕ) (id : ℕ) (s : Span) → s.first < s.end → (buckets-met w s).end ≤ length bs
      → ((t : ℕ) → covers s t ≡ true → is-visible id (get_or bs (t / w) 0) ≡ true) → visible-runs w bs id s ≡ s ∷ []
  unfolding visible-runs runs
  all-visible bs id s h on f =
      let b = buckets-met w s in
      let wide : b.first < b.end = wider in
      let one : runs-in (is-visible id) bs b ≡ b ∷ [] = range-run (is-visible id) bs b wide on (λ k x y.
      let (l, u, e) = tile-in s k h x y in
      let t = max s.first (k * w) in
      ap (λ (n : ℕ). is-visible id (get_or bs n 0)) (sym e) ∙ f t (covers-yes s t l u)) in
      rw (lt-ltb s.first s.end h, one) (ap (λ (x : Span). x ∷ []) cut)
    where
      wider : s.first / w < (s.end + (w - 1)) / w
      wider = touched-end w pos s.first s.end h

      cut : common s (tiles-of w (buckets-met w s)) ≡ s
      cut =
          let lo : max s.first (s.first / w * w) ≡ s.first = let m = div-mul-le_self s.first w in omega arith in
          let hi : min s.end ((s.end + (w - 1)) / w * w) ≡ s.end = let m = le-raised w pos s.end ((s.end + (w - 1)) / w) (le_refl ((s.end + (w - 1)) / w)) in omega arith in
          rw (lo, hi)
