-- Where a summary is sound, a fill's runs by the summary are its visible runs, and painting keeps it sound. Assumes nothing.
use Rattle.std.proofs.Common.{◌≡◌, refl, sym, ap, ◌∙◌, Bool, true, false, ◌&&◌, ◌||◌, cond, List, [], ◌∷◌, map, ◌⊎◌, inl, inr, ⊎_elim, Option, None, Some, ℕ, zero, suc, ◌≤◌, ◌<◌, ◌+◌, ◌-◌, ◌*◌, ◌/◌}
use Rattle.std.proofs.Common.{add-zero, add-suc, suc-add, zero-add, mul_comm, suc-mul, mul-le-mul_right, arith, length, get_or, drop, replicate, length-drop, length-take-le, get_or-take, get_or-drop}
use Rattle.std.proofs.Common.{leb, ltb, eq-eqb, le-leb, leb-true, ltb-true, ltb-false}
use Rattle.sizes.specs.declared.width.Width.{Width}
use Rattle.sizes.specs.Widths.{bucket-tiles}
use Rattle.rules.specs.Lists.{slice}
use Rattle.rules.specs.Spans.{Span, span, covers, hull, common}
use Rattle.rules.specs.Depth.{Summary, included, apart, can_skip, bucket-runs, runs-in, runs, tiles-of, is-unset, is-visible, visible-runs, written_from, written}
use Rattle.rules.proofs.laws.Widths.{each, lowered-most, raised-least, meets, met-in, starts-before}
use Rattle.paint.specs.Summaries.{whole_run, shown_runs, Inside, Sound, Included}

spans : {a b c d : ℕ} → a ≡ c → b ≡ d → span a b ≡ span c d
spans p q = rw (p, q)

-- buckets that are all open are one run
all-open : (p : ℕ → Bool) (i b : ℕ) (bs : List ℕ) → ((k : ℕ) → k < suc (length bs) → p (get_or (b ∷ bs) k 0) ≡ true)
    → bucket-runs p i (b ∷ bs) ≡ span i (i + suc (length bs)) ∷ []
unfolding bucket-runs
all-open p i b [] h = rw (h 0 (omega arith)) (ap (λ (r : Span). r ∷ []) (spans refl (omega arith)))
all-open p i b (c ∷ bs) h =
    let e : bucket-runs p (suc i) (c ∷ bs) ≡ span (suc i) (suc i + suc (length bs)) ∷ [] =
    all-open p (suc i) c bs (λ k l. h (suc k) (omega arith))
    in
    rw (h 0 (omega arith), e, eq-eqb (suc i) (suc i) refl) (ap (λ (r : Span). r ∷ []) (spans refl (omega arith)))

some-open : (p : ℕ → Bool) (i n : ℕ) (bs : List ℕ) → length bs ≡ n → 0 < n → ((k : ℕ) → k < n → p (get_or bs k 0) ≡ true)
    → bucket-runs p i bs ≡ span i (i + n) ∷ []
some-open p i n [] e h g = absurd (omega arith)
some-open p i n (b ∷ bs) e h g =
    all-open p i b bs (λ k l. g k (omega (arith, e))) ∙ ap (λ (m : ℕ). span i (i + m) ∷ []) e

range-open : (p : ℕ → Bool) (bs : List ℕ) (lo hi : ℕ) → lo < hi → hi ≤ length bs → ((k : ℕ) → lo ≤ k → k < hi → p (get_or bs k 0) ≡ true)
    → runs-in p bs (span lo hi) ≡ span lo hi ∷ []
unfolding runs-in
range-open p bs lo hi h g a =
    some-open p lo (hi - lo) (slice lo hi bs) (length-take-le (hi - lo) (drop lo bs) (rw length-drop (omega arith))) (omega arith) each
    ∙ ap (λ (r : Span). r ∷ []) (spans refl (omega arith))
  where
    each : (k : ℕ) → k < hi - lo → p (get_or (slice lo hi bs) k 0) ≡ true
    each k l = rw (get_or-take (hi - lo) (drop lo bs) k 0 l, get_or-drop lo bs k 0) (a (lo + k) (omega arith) (omega arith))

-- a tile whose bucket is no later than k lies before the end of bucket k
before-end : (width : Width) (k x : ℕ) → x / bucket-tiles width ≤ k → x < bucket-tiles width * k + bucket-tiles width
before-end width k x h =
    each (λ w. x / w ≤ k → x < w * k + w) (λ h. omega arith) (λ h. omega arith) (λ h. omega arith) width h

module _ (width : Width) (u : Summary) (bs : List ℕ) (o : Sound (bucket-tiles width) u bs) (id : ℕ) (s : Span) where
  abbrev w : ℕ
  w = bucket-tiles width

  -- the buckets that the span meets are visible
  abbrev pub Shown : Type 0
  Shown = (k : ℕ) → s.first / w ≤ k → k < (s.end + (w - 1)) / w → s.first < s.end → get_or bs k 0 ≤ id

  -- .. then it is its one run
  all_shown : s.end ≤ w * length bs → Shown → visible-runs w bs id s ≡ whole_run s
  unfolding visible-runs runs
  all_shown g a = go (ltb s.first s.end) refl
    where
      go : (t : Bool) → ltb s.first s.end ≡ t
          → cond t (map (λ (r : Span). common s (tiles-of w r)) (runs-in (is-visible id) bs (span (s.first / w) ((s.end + (w - 1)) / w)))) []
          ≡ cond t (s ∷ []) []
      go true e =
          let h : s.first < s.end = ltb-true _ _ e in
          let low = lowered-most width s.first in
          let high = raised-least width s.end in
          rw (range-open (is-visible id) bs (s.first / w) ((s.end + (w - 1)) / w) (meets width _ _ h) (met-in width _ _ g)
          (λ k l m. le-leb _ _ (a k l m h)))
          (ap (λ (r : Span). r ∷ []) (spans {c = s.first} {d = s.end} (omega (arith, low)) (omega (arith, high))))
      go false e = refl

  -- a bucket of the span under a summary that lets it pass
  by-largest : leb u.largest id ≡ true → (k : ℕ) → get_or bs k 0 ≤ id
  by-largest e k = let h : u.largest ≤ id = leb-true _ _ e in omega (arith, o.low k)

  outside : (v : Option Span) (k : ℕ) → apart v s ≡ true → s.first / w ≤ k → k < (s.end + (w - 1)) / w → Inside w v k → ⊥
  outside None k e l m i = i
  outside (Some v) k e l m i = go (leb v.end s.first) refl e
    where
      go : (t : Bool) → leb v.end s.first ≡ t → (t || leb s.end v.first) ≡ true → ⊥
      go true p q = let x : v.end ≤ s.first = leb-true _ _ p in omega (arith, i.1, before-end width k s.first l)
      go false p q =
          let x : s.end ≤ v.first = leb-true _ _ q in
          let y : w * k < s.end = rw (mul_comm w k) (starts-before width k s.end m) in
          omega (arith, i.0)

  by_apart : apart u.union s ≡ true → Shown
  by_apart e k l m h = go (ltb 0 (get_or bs k 0)) refl
    where
      go : (t : Bool) → ltb 0 (get_or bs k 0) ≡ t → get_or bs k 0 ≤ id
      go true p = absurd (outside u.union k e l m (o.inside k (ltb-true _ _ p)))
      go false p = let x : get_or bs k 0 ≤ 0 = ltb-false _ _ p in omega arith

  -- where `can_skip` says yes, every bucket that the span meets is visible
  pub passes : can_skip u s id ≡ true → Shown
  unfolding can_skip
  passes e k l m h = go (leb u.largest id) refl e
    where
      go : (t : Bool) → leb u.largest id ≡ t → (t || apart u.union s) ≡ true → get_or bs k 0 ≤ id
      go true p q = by-largest p k
      go false p q = by_apart q k l m h

  -- the pieces are the same with the summary and without it
  pub same_runs : shown_runs w u bs id s ≡ visible-runs w bs id s
  unfolding shown_runs
  same_runs = go (can_skip u s id) (leb s.end (w * length bs)) refl refl
    where
      go : (t v : Bool) → can_skip u s id ≡ t → leb s.end (w * length bs) ≡ v
          → cond (t && v) (whole_run s) (visible-runs w bs id s) ≡ visible-runs w bs id s
      go true true e f = sym (all_shown (leb-true _ _ f) (passes e))
      go true false e f = refl
      go false v e f = refl

-- Words that are all 0 are sound under any summary.
pub sound-blank : (w : ℕ) (u : Summary) (n : ℕ) → Sound w u (replicate n 0)
sound-blank w u n = record { low = λ k. omega (arith, blank n k); inside = λ k h. absurd (omega (arith, blank n k)) }
  where
    blank : (n k : ℕ) → ◌≡◌ {A = ℕ} (get_or (replicate n 0) k 0) 0
    blank zero k = refl
    blank (suc n) zero = refl
    blank (suc n) (suc k) = blank n k

-- what stands at a place after the writing form: what stood there, or the id within the range
at-written : (id : ℕ) (r : Span) (i : ℕ) (bs : List ℕ) (k : ℕ)
    → (get_or (written_from i id r bs) k 0 ≡ get_or bs k 0) ⊎ ((get_or (written_from i id r bs) k 0 ≡ id) × (covers r (i + k) ≡ true))
at-written id r i [] k = inl refl
at-written id r i (b ∷ bs) zero = go (covers r i) (is-unset b) refl
  where
    go : (t v : Bool) → covers r i ≡ t → (cond t (cond v id b) b ≡ b) ⊎ ((cond t (cond v id b) b ≡ id) × (covers r (i + 0) ≡ true))
    go true true e = inr (refl, rw (add-zero i) e)
    go true false e = inl refl
    go false v e = inl refl
at-written id r i (b ∷ bs) (suc k) =
    ⊎_elim (λ e. inl e) (λ e. inr (e.0, rw (add-suc i k, ← suc-add i k) e.1)) (at-written id r (suc i) bs k)

covered : (r : Span) (k : ℕ) → covers r k ≡ true → (r.first ≤ k) × (k < r.end)
covered r k e = go (leb r.first k) refl e
  where
    go : (t : Bool) → leb r.first k ≡ t → (t && ltb k r.end) ≡ true → (r.first ≤ k) × (k < r.end)
    go true p q = (leb-true _ _ p, ltb-true _ _ q)
    go false p q = let z : ◌≡◌ {A = ℕ} 0 1 = cc in absurd (omega arith)

-- a depth fill that the summary includes keeps it sound
module _ (w : ℕ) (u : Summary) (bs : List ℕ) (o : Sound w u bs) (r : Span) (id : ℕ) (n : Included w u r id) where
  low-after : (k : ℕ) → get_or (written bs id r) k 0 ≤ u.largest
  unfolding written
  low-after k = ⊎_elim (λ e. omega (arith, o.low k)) (λ e. omega (arith, e.0, n.below)) (at-written id r 0 bs k)

  inside-after : (k : ℕ) → 0 < get_or (written bs id r) k 0 → Inside w u.union k
  unfolding written
  inside-after k h =
      ⊎_elim (λ e. o.inside k (omega (arith, e)))
      (λ e. let c = covered r k (rw (zero-add k) at e.1) in n.inside k c.0 c.1)
      (at-written id r 0 bs k)

  pub sound-after : Sound w u (written bs id r)
  sound-after = record { low = low-after; inside = inside-after }

-- A summary includes the depth fill that it was just updated with, and those that it included before.
module _ (w : ℕ) (u : Summary) (s : Span) (j : ℕ) where
  pub includes-new : (r : Span) → s ≡ tiles-of w r → Included w (included u s j) r j
  includes-new r e = record { below = omega arith; inside = λ k h g. in-hull u.union k (starts k h) (ends k g) }
    where
      starts : (k : ℕ) → r.first ≤ k → r.first * w ≤ w * k
      starts k h = rw (mul_comm w k) (mul-le-mul_right w h)

      ends : (k : ℕ) → k < r.end → w * k + w ≤ r.end * w
      ends k g = rw (mul_comm w k, ← suc-mul k w) (mul-le-mul_right w g)

      in-hull : (v : Option Span) (k : ℕ) → r.first * w ≤ w * k → w * k + w ≤ r.end * w → Inside w (Some (hull v s)) k
      in-hull None k h g = rw e (h, g)
      in-hull (Some v) k h g = rw e (omega arith, omega arith)

  pub includes-still : (r : Span) (id : ℕ) → Included w u r id → Included w (included u s j) r id
  includes-still r id n = record { below = omega (arith, n.below); inside = λ k h g. wider u.union k (n.inside k h g) }
    where
      wider : (v : Option Span) (k : ℕ) → Inside w v k → Inside w (Some (hull v s)) k
      wider None k i = absurd i
      wider (Some v) k i = (omega (arith, i.0), omega (arith, i.1))
