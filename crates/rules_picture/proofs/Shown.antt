-- The other half of the picture, on one tile: of entries with rising ids, two passes show what plain draw order leaves:
-- first the newest entry that hides, then, in order, each that does not hide and is not older than it.
use Rattle.std.proofs.Common.{ℕ, ◌≤◌, ◌<◌, ◌≡◌, refl, sym, ap, subst, ◌∙◌, Bool, true, false, ◌&&◌, ◌||◌, not, cond, true≢false, List, [], ◌∷◌, ◌++◌, arith, leb, le-leb, ne_eqb, eqb}
use mathlib.Core.Bool.{false≢true}
use borrow.Author.Tests.{lt-leb}
use Rattle.rules.specs.Lists.{some_of, such, keep}
use Rattle.rules.specs.Depth.{write}
use Rattle.rules.specs.Plain.{Told, shown}
use Rattle.rules.proofs.All.{All, nil, cons}
use Rattle.rules_picture.proofs.Cases.{by}

-- ids above n, rising
pub data Rising : ℕ → List Told → Type 0 where
  all_told : {n : ℕ} → Rising n []
  told-next : {n : ℕ} {t : Told} {ts : List Told} → n < t.id → Rising t.id ts → Rising n (t ∷ ts)

abbrev pub hides-of : Told → Bool
hides-of t = t.hides

-- the id of the newest entry that hides, or 0; and that entry
unfoldable pub newest-hide : List Told → ℕ
newest-hide [] = 0
newest-hide (t ∷ ts) = write (cond t.hides t.id 0) (newest-hide ts)

unfoldable pub hider : List Told → List Told
hider [] = []
hider (t ∷ ts) = cond (some_of hides-of ts) (hider ts) (keep t.hides t [])

-- the second pass, against the id n
abbrev pub passes : ℕ → Told → Bool
passes n t = not t.hides && leb n t.id

abbrev pub two-passes : List Told → List Told
two-passes ts = hider ts ++ such (passes (newest-hide ts)) ts

pub write-past : (x b : ℕ) → 0 < b → write x b ≡ b
write-past x b h = rw (ne_eqb b 0 (λ e. omega arith))

no-newest : (ts : List Told) → some_of hides-of ts ≡ false → newest-hide ts ≡ 0
unfolding newest-hide
no-newest [] e = refl
no-newest (t ∷ ts) e = go t.hides e (no-newest ts)
  where
    go : (b : Bool) → (b || some_of hides-of ts) ≡ false → (some_of hides-of ts ≡ false → newest-hide ts ≡ 0) → write (cond b t.id 0) (newest-hide ts) ≡ 0
    go true e₁ ih = absurd (true≢false e₁)
    go false e₁ ih = rw (ih e₁)

-- one that hides is newer than what came before
above : {n : ℕ} {ts : List Told} → Rising n ts → some_of hides-of ts ≡ true → n < newest-hide ts
unfolding newest-hide
above all_told e = absurd (false≢true e)
above {n} (told-next {t = t} {ts = ts} h r) e = go (some_of hides-of ts) refl t.hides e (above r)
  where
    go : (b : Bool) → some_of hides-of ts ≡ b → (c : Bool) → (c || some_of hides-of ts) ≡ true → (some_of hides-of ts ≡ true → t.id < newest-hide ts) → n < write (cond c t.id 0) (newest-hide ts)
    go true q c e₁ ih = let k = ih q in rw (write-past (cond c t.id 0) (newest-hide ts) (omega arith)) (omega arith)
    go false q true e₁ ih = rw (no-newest ts q) h
    go false q false e₁ ih = absurd (false≢true (sym q ∙ e₁))

new-passes : (n : ℕ) (t : Told) → t.hides ≡ false → n ≤ t.id → passes n t ≡ true
new-passes n t e h = ap (λ (b : Bool). not b && leb n t.id) e ∙ le-leb n t.id h

hider-fails : (n : ℕ) (t : Told) → t.hides ≡ true → passes n t ≡ false
hider-fails n t e = ap (λ (b : Bool). not b && leb n t.id) e

-- with none that hides, all pass that are new enough
pass_all : {m : ℕ} {ts : List Told} (n : ℕ) → n ≤ m → Rising m ts → some_of hides-of ts ≡ false → such (passes n) ts ≡ ts
pass_all n h all_told e = refl
pass_all n h (told-next {t = t} {ts = ts} k r) e = go t.hides refl e (pass_all n (omega arith) r)
  where
    go : (b : Bool) → t.hides ≡ b → (b || some_of hides-of ts) ≡ false → (some_of hides-of ts ≡ false → such (passes n) ts ≡ ts) → such (passes n) (t ∷ ts) ≡ t ∷ ts
    go true q e₁ ih = absurd (true≢false e₁)
    go false q e₁ ih = rw (new-passes n t q (omega arith)) (ap (λ (us : List Told). t ∷ us) (ih e₁))

-- an entry older than the newest that hides does not pass
old-fails : (n : ℕ) (t : Told) → t.id < n → passes n t ≡ false
old-fails n t h = rw (lt-leb n t.id h) (go t.hides)
  where
    go : (b : Bool) → (not b && false) ≡ false
    go true = refl
    go false = refl

-- the two passes show what plain draw order leaves
pub two-passes-show : {n : ℕ} {ts : List Told} → Rising n ts → two-passes ts ≡ shown ts
unfolding newest-hide hider shown
two-passes-show all_told = refl
two-passes-show {n} (told-next {t = t} {ts = ts} h r) = go (some_of hides-of ts) refl (two-passes-show r)
  where
    alone : some_of hides-of ts ≡ false → (c : Bool) → t.hides ≡ c → keep c t [] ++ such (passes (cond c t.id 0)) (t ∷ ts) ≡ t ∷ ts
    alone q true e = rw (hider-fails t.id t e) (ap (λ (us : List Told). t ∷ us) (pass_all t.id (omega arith) r q))
    alone q false e = rw (new-passes 0 t e (omega arith)) (ap (λ (us : List Told). t ∷ us) (pass_all 0 (omega arith) r q))

    go : (b : Bool) → some_of hides-of ts ≡ b → two-passes ts ≡ shown ts → cond b (hider ts) (keep t.hides t []) ++ such (passes (newest-hide (t ∷ ts))) (t ∷ ts) ≡ cond b (shown ts) (t ∷ ts)
    go true q ih =
        let k = above r q in
        let newest : newest-hide (t ∷ ts) ≡ newest-hide ts = write-past (cond t.hides t.id 0) (newest-hide ts) (omega arith) in
        subst (λ (n : ℕ). hider ts ++ such (passes n) (t ∷ ts) ≡ shown ts) (sym newest) (rw (old-fails (newest-hide ts) t k) ih)
    go false q ih =
        let newest : newest-hide (t ∷ ts) ≡ cond t.hides t.id 0 = ap (write (cond t.hides t.id 0)) (no-newest ts q) in
        subst (λ (n : ℕ). keep t.hides t [] ++ such (passes n) (t ∷ ts) ≡ t ∷ ts) (sym newest) (alone q t.hides refl)

-- the newest that hides, of a list with one more that hides
pub newest-below : (n : ℕ) (ts : List Told) → 0 < n → All (λ (u : Told). u.id < n) ts → newest-hide ts < n
unfolding newest-hide
newest-below n [] h a = h
newest-below n (t ∷ ts) h (cons p a) =
    let ih = newest-below n ts h a in
    by (eqb (newest-hide ts) 0) (λ y. rw y (by t.hides (λ z. rw z p) (λ z. rw z h))) (λ m. rw m ih)

pub newest-last : (ts : List Told) (u : Told) → u.hides ≡ true → 0 < u.id → newest-hide (ts ++ (u ∷ [])) ≡ u.id
unfolding newest-hide
newest-last [] u y h = rw y
newest-last (t ∷ ts) u y h = ap (write (cond t.hides t.id 0)) (newest-last ts u y h) ∙ write-past (cond t.hides t.id 0) u.id h

pub all-such : {P : Told → Type 0} (p : Told → Bool) {ts : List Told} → All P ts → All P (such p ts)
all-such p nil = nil
all-such p (cons {x = x} h a) = by (p x) (λ y. rw y (cons h (all-such p a))) (λ n. rw n (all-such p a))
