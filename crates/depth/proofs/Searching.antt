-- The rules' runs, found from left to right. Assumes nothing.
use Rattle.std.proofs.Common.{◌≡◌, refl, sym, ◌∙◌, Bool, true, false, cond, List, [], ◌∷◌, ℕ, zero, suc, ◌≤◌, ◌<◌, ◌+◌, ◌-◌, ◌*◌, min, add-one, arith, length, get_or, drop, length-take, length-drop}
use Rattle.std.proofs.Common.{drop-cons, take_all, leb, eqb, eq-eqb, ne_eqb, leb-true, leb-false}
use mathlib.Core.Path.{fun_ext}
use borrow.Author.Tests.{lt-leb}
use Rattle.rules.specs.Lists.{slice}
use Rattle.rules.specs.Spans.{Span, span}
use Rattle.rules.specs.Depth.{join-run, bucket-runs, runs-in, is-unset, is-visible}

-- a run open from i to j, before the runs from j on
abbrev pub joined : ℕ → ℕ → List Span → List Span
joined i j [] = span i j ∷ []
joined i j (r ∷ rs) = cond (eqb r.first j) (span i r.end ∷ rs) (span i j ∷ r ∷ rs)

join-once : (i : ℕ) (rs : List Span) → join-run i rs ≡ joined i (i + 1) rs
join-once i [] = rw add-one
join-once i (r ∷ rs) = rw add-one

join_more : (i j : ℕ) (rs : List Span) → joined i j (joined j (j + 1) rs) ≡ joined i (j + 1) rs
join_more i j [] = rw (eq-eqb j j refl)
join_more i j (r ∷ rs) = go (eqb r.first (j + 1))
  where
    go : (t : Bool) → joined i j (cond t (span j r.end ∷ rs) (span j (j + 1) ∷ r ∷ rs)) ≡ cond t (span i r.end ∷ rs) (span i (j + 1) ∷ r ∷ rs)
    go true = rw (eq-eqb j j refl)
    go false = rw (eq-eqb j j refl)

-- the first run starts at i or later
abbrev Later : ℕ → List Span → Type 0
Later i [] = Unit
Later i (r ∷ rs) = i ≤ r.first

sooner : (i : ℕ) (rs : List Span) → Later (suc i) rs → Later i rs
sooner i [] h = tt
sooner i (r ∷ rs) h = omega arith

join-later : (i : ℕ) (rs : List Span) → Later i (join-run i rs)
join-later i [] = omega arith
join-later i (r ∷ rs) = go (eqb r.first (suc i))
  where
    go : (t : Bool) → Later i (cond t (span i r.end ∷ rs) (span i (suc i) ∷ r ∷ rs))
    go true = omega arith
    go false = omega arith

later : (p : ℕ → Bool) (i : ℕ) (bs : List ℕ) → Later i (bucket-runs p i bs)
unfolding bucket-runs
later p i [] = tt
later p i (b ∷ bs) = go (p b) (bucket-runs p (suc i) bs) (later p (suc i) bs)
  where
    go : (t : Bool) (rs : List Span) → Later (suc i) rs → Later i (cond t (join-run i rs) rs)
    go true rs h = join-later i rs
    go false rs h = sooner i rs h

-- a run that ends at a closed bucket stays as it is
apart : (i j : ℕ) (rs : List Span) → Later (suc j) rs → joined i j rs ≡ span i j ∷ rs
apart i j [] h = refl
apart i j (r ∷ rs) h = rw (ne_eqb r.first j (λ e. omega arith))

one_less : (n i : ℕ) → i < n → n - i ≡ suc (n - suc i)
one_less n i h = omega arith

none_left : (n i : ℕ) → n ≤ i → n - i ≡ 0
none_left n i h = omega arith

-- v is what bucket i holds, if that is before hi: what a search carries from bucket to bucket
abbrev pub Carried : List ℕ → ℕ → ℕ → ℕ → Type 0
Carried bs hi i v = i < hi → v ≡ get_or bs i 0

module _ (p : ℕ → Bool) (bs : List ℕ) (hi : ℕ) where
  pub runs-end : (i : ℕ) → hi ≤ i → runs-in p bs (span i hi) ≡ []
  unfolding runs-in bucket-runs
  runs-end i h = rw (none_left hi i h)

  module _ (fits : hi ≤ length bs) (i : ℕ) (h : i < hi) where
    here : slice i hi bs ≡ get_or bs i 0 ∷ slice (suc i) hi bs
    here = rw (one_less hi i h, drop-cons bs i 0 (omega arith))

    pub runs_closed : p (get_or bs i 0) ≡ false → runs-in p bs (span i hi) ≡ runs-in p bs (span (i + 1) hi)
    unfolding runs-in bucket-runs
    runs_closed e = rw (here, e, add-one)

    pub runs-open : p (get_or bs i 0) ≡ true → runs-in p bs (span i hi) ≡ joined i (i + 1) (runs-in p bs (span (i + 1) hi))
    unfolding runs-in bucket-runs
    runs-open e = rw (here, e) (join-once i (bucket-runs p (suc i) (slice (suc i) hi bs)) ∙ rw add-one)

    -- bucket i ends a run: it is closed ..
    pub run-closed : (k : ℕ) → p (get_or bs i 0) ≡ false → joined k i (runs-in p bs (span i hi)) ≡ span k i ∷ runs-in p bs (span i hi)
    unfolding runs-in
    run-closed k e = rw (runs_closed e, add-one) (apart k i _ (later p (suc i) (slice (suc i) hi bs)))

    -- .. or open, and the run goes on
    pub run_on : (k : ℕ) → p (get_or bs i 0) ≡ true → joined k i (runs-in p bs (span i hi)) ≡ joined k (i + 1) (runs-in p bs (span (i + 1) hi))
    run_on k e = rw (runs-open e) (join_more k i (runs-in p bs (span (i + 1) hi)))

  -- .. or there is none
  pub run_end : (k i : ℕ) → hi ≤ i → joined k i (runs-in p bs (span i hi)) ≡ span k i ∷ runs-in p bs (span i hi)
  run_end k i h = rw (runs-end i h)

  -- the search from the open bucket i has come to j
  pub record Reached (i j : ℕ) : Type 0 where
    pub past : i + 1 ≤ j
    pub within : j ≤ hi
    pub so_far : runs-in p bs (span i hi) ≡ joined i j (runs-in p bs (span j hi))

  -- .. and the run ends there
  pub record Ended (i j : ℕ) : Type 0 where
    pub past : i + 1 ≤ j
    pub within : j ≤ hi
    pub run : runs-in p bs (span i hi) ≡ span i j ∷ runs-in p bs (span j hi)

  -- .. with v to carry on
  pub record Stopped (i j v : ℕ) : Type 0 where
    pub ended : Ended i j
    pub carried : Carried bs hi j v

  pub reach-first : hi ≤ length bs → (i : ℕ) → i < hi → p (get_or bs i 0) ≡ true → Reached i (i + 1)
  reach-first fits i h e = record { past = omega arith; within = omega arith; so_far = runs-open fits i h e }

  module _ (fits : hi ≤ length bs) (i j : ℕ) where
    pub reach-more : Reached i j → j < hi → p (get_or bs j 0) ≡ true → Reached i (j + 1)
    reach-more r h e = record { past = omega arith; within = omega arith; so_far = r.so_far ∙ run_on fits j h i e }

    pub reach-closed : Reached i j → j < hi → p (get_or bs j 0) ≡ false → Ended i j
    reach-closed r h e = record { past = r.past; within = r.within; run = r.so_far ∙ run-closed fits j h i e }

    pub reach-end : Reached i j → hi ≤ j → Ended i j
    reach-end r h = record { past = r.past; within = r.within; run = r.so_far ∙ run_end i j h }

    pub stop-end : (v : ℕ) → Reached i j → hi ≤ j → Stopped i j v
    stop-end v r h = record { ended = reach-end r h; carried = λ k. absurd (omega arith) }

    pub stop-closed : Reached i j → j < hi → p (get_or bs j 0) ≡ false → Stopped i j (get_or bs j 0)
    stop-closed r h e = record { ended = reach-closed r h e; carried = λ k. refl }

-- 1 if the first run starts at i
abbrev starts : ℕ → List Span → ℕ
starts i [] = 0
starts i (r ∷ rs) = cond (eqb r.first i) 1 0

few : (p : ℕ → Bool) (i : ℕ) (bs : List ℕ) → length (bucket-runs p i bs) * 2 ≤ length bs + starts i (bucket-runs p i bs)
unfolding bucket-runs
few p i [] = omega arith
few p i (b ∷ bs) = go (p b) (bucket-runs p (suc i) bs) (later p (suc i) bs) (few p (suc i) bs)
  where
    go : (t : Bool) (rs : List Span) → Later (suc i) rs → length rs * 2 ≤ length bs + starts (suc i) rs
        → length (cond t (join-run i rs) rs) * 2 ≤ suc (length bs) + starts i (cond t (join-run i rs) rs)
    go true [] k h = rw (eq-eqb i i refl) (omega arith)
    go true (r ∷ rs) k h = on (eqb r.first (suc i)) h
      where
        on : (u : Bool) → length (r ∷ rs) * 2 ≤ length bs + cond u 1 0
            → length (cond u (span i r.end ∷ rs) (span i (suc i) ∷ r ∷ rs)) * 2 ≤ suc (length bs) + starts i (cond u (span i r.end ∷ rs) (span i (suc i) ∷ r ∷ rs))
        on true h = rw (eq-eqb i i refl) (omega arith)
        on false h = rw (eq-eqb i i refl) (omega arith)
    go false [] k h = omega arith
    go false (r ∷ rs) k h = rw (ne_eqb r.first i (λ e. omega arith)) (off (eqb r.first (suc i)) h)
      where
        off : (u : Bool) → length (r ∷ rs) * 2 ≤ length bs + cond u 1 0 → length (r ∷ rs) * 2 ≤ suc (length bs) + 0
        off true h = omega arith
        off false h = omega arith

first_one : (i : ℕ) (rs : List Span) → starts i rs ≤ 1
first_one i [] = omega arith
first_one i (r ∷ rs) = go (eqb r.first i)
  where
    go : (t : Bool) → cond t 1 0 ≤ 1
    go true = omega arith
    go false = omega arith

-- n buckets have at most (n + 1) / 2 runs
pub runs-few : (p : ℕ → Bool) (bs : List ℕ) (lo hi : ℕ) → length (runs-in p bs (span lo hi)) * 2 ≤ hi - lo + 1
unfolding runs-in
runs-few p bs lo hi =
    let long : length (slice lo hi bs) ≤ hi - lo = simp (length-take) (omega arith) in
    omega (arith, few p lo (slice lo hi bs), first_one lo (bucket-runs p lo (slice lo hi bs)))

-- the buckets past the list are ignored
shorter : (lo hi : ℕ) (bs : List ℕ) → slice lo (min hi (length bs)) bs ≡ slice lo hi bs
shorter lo hi bs = go (leb hi (length bs)) refl
  where
    go : (t : Bool) → leb hi (length bs) ≡ t → slice lo (min hi (length bs)) bs ≡ slice lo hi bs
    go true e = let m : min hi (length bs) ≡ hi = omega (arith, leb-true) in rw m
    go false e =
        let m : min hi (length bs) ≡ length bs = omega (arith, leb-false) in
        rw m (take_all (length bs - lo) (drop lo bs) (simp length-drop (omega arith)) ∙ sym (take_all (hi - lo) (drop lo bs) (simp length-drop (omega (arith, leb-false)))))

pub runs-shorter : (p : ℕ → Bool) (bs : List ℕ) (lo hi : ℕ) → runs-in p bs (span lo (min hi (length bs))) ≡ runs-in p bs (span lo hi)
unfolding runs-in
runs-shorter p bs lo hi = rw (shorter lo hi bs)

-- unset is visible at id 0
same_test : (b : ℕ) → is-unset b ≡ is-visible 0 b
same_test zero = refl
same_test (suc b) = ne_eqb (suc b) 0 (λ e. omega arith) ∙ sym (lt-leb (suc b) 0 (omega arith))

pub unset-visible : is-unset ≡ is-visible 0
unset-visible = fun_ext same_test
