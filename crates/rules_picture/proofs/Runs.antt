-- Each open bucket lies in exactly one of the runs, and each other bucket in none.
use Rattle.std.proofs.Common.{ℕ, zero, suc, ◌+◌, ◌-◌, ◌≤◌, ◌<◌, ◌≡◌, refl, sym, ap, ◌∙◌, Bool, true, false, ◌&&◌, cond, List, [], ◌∷◌, add-suc, suc-add, add-zero, le_of_suc-le-suc, not-suc-le-zero}
use Rattle.std.proofs.Common.{le_refl, arith, length, get_or, drop, length-take, length-drop, get_or-take, get_or-drop, leb, ltb, eqb, lt-ltb, le-ltb, le-leb, leb-true, leb-false, ltb-false, eqb-true}
use borrow.Author.Tests.{lt-leb}
use Rattle.rules.specs.Lists.{such, keep, slice}
use Rattle.rules.specs.Spans.{Span, span, covers}
use Rattle.rules.specs.Depth.{join-run, bucket-runs, runs-in}
use Rattle.rules_picture.proofs.Cases.{by, and-missed, covers_low, covers_high}

-- how many of the spans cover k
abbrev pub hits : List Span → ℕ → ℕ
hits rs k = length (such (λ (r : Span). covers r k) rs)

-- spans from i on, none empty, none overlapping the one before
pub data Apart : ℕ → List Span → Type 0 where
  none_left : {i : ℕ} → Apart i []
  and_then : {i : ℕ} {r : Span} {rs : List Span} → i ≤ r.first → r.first < r.end → Apart r.end rs → Apart i (r ∷ rs)

sooner : {i j : ℕ} {rs : List Span} → i ≤ j → Apart j rs → Apart i rs
sooner h none_left = none_left
sooner {i} h (and_then {r = r} a b c) = and_then {i = i} {r = r} (omega arith) b c

join_apart : {i : ℕ} {rs : List Span} → Apart (suc i) rs → Apart i (join-run i rs)
join_apart {i} none_left = and_then {r = span i (suc i)} (le_refl i) (omega arith) none_left
join_apart {i} (and_then {r = r} {rs = rs} a b c) = go (eqb r.first (suc i))
  where
    go : (t : Bool) → Apart i (cond t (span i r.end ∷ rs) (span i (suc i) ∷ r ∷ rs))
    go true = and_then {r = span i r.end} (le_refl i) (omega arith) c
    go false = and_then {r = span i (suc i)} (le_refl i) (omega arith) (and_then a b c)

pub runs-apart : (p : ℕ → Bool) (i : ℕ) (bs : List ℕ) → Apart i (bucket-runs p i bs)
unfolding bucket-runs
runs-apart p i [] = none_left
runs-apart p i (b ∷ bs) = go (p b) (runs-apart p (suc i) bs)
  where
    go : {rs : List Span} (t : Bool) → Apart (suc i) rs → Apart i (cond t (join-run i rs) rs)
    go true a = join_apart a
    go false a = sooner (omega arith) a

-- a bucket before all of them is covered by none
before : {i : ℕ} {rs : List Span} (k : ℕ) → k < i → Apart i rs → hits rs k ≡ 0
before k h none_left = refl
before k h (and_then {r = r} a b c) = rw (lt-leb r.first k (omega arith)) (before k (omega arith) c)

here : {i : ℕ} {rs : List Span} → Apart (suc i) rs → hits (join-run i rs) i ≡ 1
here {i} none_left = rw (le-leb i i (le_refl i), lt-ltb i (suc i) (omega arith))
here {i} (and_then {r = r} {rs = rs} a b c) = go (eqb r.first (suc i))
  where
    go : (t : Bool) → hits (cond t (span i r.end ∷ rs) (span i (suc i) ∷ r ∷ rs)) i ≡ 1
    go true = rw (le-leb i i (le_refl i), lt-ltb i r.end (omega arith)) (ap suc (before i (omega arith) c))
    go false = rw (le-leb i i (le_refl i), lt-ltb i (suc i) (omega arith), lt-leb r.first i (omega arith)) (ap suc (before i (omega arith) c))

same_count : (t : Bool) (x y : Span) (rs : List Span) → length (keep t x rs) ≡ length (keep t y rs)
same_count true x y rs = refl
same_count false x y rs = refl

past : {i : ℕ} {rs : List Span} (k : ℕ) → i < k → Apart (suc i) rs → hits (join-run i rs) k ≡ hits rs k
past {i} k h none_left = rw (le-leb i k (omega arith), le-ltb k (suc i) (omega arith))
past {i} k h (and_then {r = r} {rs = rs} a b c) = go (eqb r.first (suc i)) refl
  where
    go : (t : Bool) → eqb r.first (suc i) ≡ t → hits (cond t (span i r.end ∷ rs) (span i (suc i) ∷ r ∷ rs)) k ≡ hits (r ∷ rs) k
    go true e = let f = eqb-true r.first (suc i) e in rw (le-leb i k (omega arith), le-leb r.first k (omega arith)) (same_count (ltb k r.end) (span i r.end) r _)
    go false e = rw (le-leb i k (omega arith), le-ltb k (suc i) (omega arith))

-- exactly one run covers an open bucket, none any other
pub runs-hit : (p : ℕ → Bool) (i k : ℕ) (bs : List ℕ) → k < length bs → hits (bucket-runs p i bs) (i + k) ≡ cond (p (get_or bs k 0)) 1 0
unfolding bucket-runs
runs-hit p i k [] h = absurd (not-suc-le-zero h)
runs-hit p i zero (b ∷ bs) h = rw (add-zero i) (go (p b))
  where
    go : (t : Bool) → hits (cond t (join-run i (bucket-runs p (suc i) bs)) (bucket-runs p (suc i) bs)) i ≡ cond t 1 0
    go true = here (runs-apart p (suc i) bs)
    go false = before i (omega arith) (runs-apart p (suc i) bs)
runs-hit p i (suc k) (b ∷ bs) h = go (p b) ∙ rw (add-suc i k, ← suc-add i k) (runs-hit p (suc i) k bs (le_of_suc-le-suc h))
  where
    go : (t : Bool) → hits (cond t (join-run i (bucket-runs p (suc i) bs)) (bucket-runs p (suc i) bs)) (i + suc k) ≡ hits (bucket-runs p (suc i) bs) (i + suc k)
    go true = past (i + suc k) (omega arith) (runs-apart p (suc i) bs)
    go false = refl

-- none lies past the list
pub runs-miss : (p : ℕ → Bool) (i k : ℕ) (bs : List ℕ) → length bs ≤ k → hits (bucket-runs p i bs) (i + k) ≡ 0
unfolding bucket-runs
runs-miss p i k [] h = refl
runs-miss p i zero (b ∷ bs) h = absurd (omega arith)
runs-miss p i (suc k) (b ∷ bs) h = go (p b) ∙ rw (add-suc i k, ← suc-add i k) (runs-miss p (suc i) k bs (omega arith))
  where
    go : (t : Bool) → hits (cond t (join-run i (bucket-runs p (suc i) bs)) (bucket-runs p (suc i) bs)) (i + suc k) ≡ hits (bucket-runs p (suc i) bs) (i + suc k)
    go true = past (i + suc k) (omega arith) (runs-apart p (suc i) bs)
    go false = refl

-- of a range of buckets: a bucket lies in one run if it is open and in the range, and otherwise in none
pub range-hit : (p : ℕ → Bool) (bs : List ℕ) (r : Span) (k : ℕ) → k < length bs → hits (runs-in p bs r) k ≡ cond (covers r k && p (get_or bs k 0)) 1 0
unfolding runs-in
range-hit p bs r k h = by (covers r k) yes no
  where
    yes : covers r k ≡ true → hits (bucket-runs p r.first (slice r.first r.end bs)) k ≡ cond (covers r k && p (get_or bs k 0)) 1 0
    yes y =
        let l = covers_low r k y in
        let u = covers_high r k y in
        let j = k - r.first in
        let e : r.first + j ≡ k = omega arith in
        let len : j < length (slice r.first r.end bs) = rw (length-take (r.end - r.first) (drop r.first bs), length-drop r.first bs) (omega arith) in
        let hit = runs-hit p r.first j (slice r.first r.end bs) len in
        let at : get_or (slice r.first r.end bs) j 0 ≡ get_or bs k 0 =
        get_or-take (r.end - r.first) (drop r.first bs) j 0 (omega arith) ∙ get_or-drop r.first bs j 0 ∙ ap (λ m. get_or bs m 0) e in
        rw y (ap (λ m. hits (bucket-runs p r.first (slice r.first r.end bs)) m) (sym e) ∙ hit ∙ ap (λ b. cond (p b) 1 0) at)

    no : covers r k ≡ false → hits (bucket-runs p r.first (slice r.first r.end bs)) k ≡ cond (covers r k && p (get_or bs k 0)) 1 0
    no n = rw n (by (leb r.first k)
        (λ y.
        let l = leb-true r.first k y in
        let u : r.end ≤ k = ltb-false k r.end (and-missed (leb r.first k) (ltb k r.end) y n) in
        let j = k - r.first in
        let e : r.first + j ≡ k = omega arith in
        let len : length (slice r.first r.end bs) ≤ j = rw (length-take (r.end - r.first) (drop r.first bs), length-drop r.first bs) (omega arith) in
        ap (λ m. hits (bucket-runs p r.first (slice r.first r.end bs)) m) (sym e) ∙ runs-miss p r.first j (slice r.first r.end bs) len)
        (λ m. before k (leb-false r.first k m) (runs-apart p r.first (slice r.first r.end bs))))
