-- Of entries with rising ids the picture drops those that are older than the newest that hides.
use Rattle.std.proofs.Common.{ℕ, suc, ◌+◌, ◌≤◌, ◌<◌, arith, ◌≡◌, refl, sym, ◌∙◌, ap, subst, Bool, true, false, not, cond, List, [], ◌∷◌, length, ltb, lt-ltb, le-ltb}
use Rattle.rules.specs.Lists.{some_of, such}
use Rattle.rules.specs.Depth.{write}
use Rattle.rules.specs.Plain.{Told}
use Rattle.rules.proofs.All.{never, neither}
use Rattle.rules_picture.proofs.Cases.{by}
use Rattle.rules_picture.proofs.Newest.{write-zero}
use Rattle.rules_picture.proofs.Shown.{Rising, all_told, told-next, hides-of, newest-hide, write-past}
use Rattle.rules_figures.specs.Figures.{dropped}

-- older than n
abbrev pub older : ℕ → Told → Bool
older n u = ltb u.id n

-- with none that hides there is no newest
none-newest : (ts : List Told) → some_of hides-of ts ≡ false → newest-hide ts ≡ 0
unfolding newest-hide
none-newest [] e = refl
none-newest (t ∷ ts) e = let h = neither t.hides (some_of hides-of ts) e in rw (h.0, none-newest ts h.1)

-- one that hides is newer than all before
newest-above : {n : ℕ} {ts : List Told} → Rising n ts → some_of hides-of ts ≡ true → n < newest-hide ts
unfolding newest-hide
newest-above all_told e = never (sym e)
newest-above (told-next {t = t} {ts = ts} h r) e = by (some_of hides-of ts)
    (λ y. let k = newest-above r y in rw (write-past (cond t.hides t.id 0) (newest-hide ts) (omega arith)) (omega arith))
    (λ n. rw (none-newest ts n) (by t.hides (λ y. rw y h) (λ m. never (sym (rw (m, n) at e)))))

none-older : {n : ℕ} {ts : List Told} (b : ℕ) → b ≤ n → Rising n ts → such (older b) ts ≡ []
none-older b h all_told = refl
none-older b h (told-next {t = t} k r) = rw (le-ltb t.id b (omega arith), none-older b (omega arith) r)

pub dropped-older : {n : ℕ} {ts : List Told} → Rising n ts → length (such (older (newest-hide ts)) ts) ≡ length (dropped ts)
unfolding newest-hide dropped
dropped-older all_told = refl
dropped-older (told-next {t = t} {ts = ts} h r) = by (some_of hides-of ts)
    (λ y.
    let k = newest-above r y in
    let e : newest-hide (t ∷ ts) ≡ newest-hide ts = write-past (cond t.hides t.id 0) (newest-hide ts) (omega arith) in
    subst (λ (n : ℕ). length (such (older n) (t ∷ ts)) ≡ length (dropped (t ∷ ts))) (sym e) (rw (y, lt-ltb t.id (newest-hide ts) k) (ap suc (dropped-older r))))
    (λ n.
    let e : newest-hide (t ∷ ts) ≡ cond t.hides t.id 0 = ap (write (cond t.hides t.id 0)) (none-newest ts n) in
    let m : cond t.hides t.id 0 ≤ t.id = by t.hides (λ y. rw y (omega arith)) (λ z. rw z (omega arith)) in
    subst (λ (n : ℕ). length (such (older n) (t ∷ ts)) ≡ length (dropped (t ∷ ts))) (sym e) (rw (n, le-ltb t.id (cond t.hides t.id 0) m, none-older (cond t.hides t.id 0) m r)))

-- the newest is one of those that hide
pub newest-hider : (ts : List Told) → newest-hide ts ≡ newest-hide (such hides-of ts)
unfolding newest-hide
newest-hider [] = refl
newest-hider (t ∷ ts) = by t.hides
    (λ y. rw (y, newest-hider ts))
    (λ n. rw n (write-zero (newest-hide ts) ∙ newest-hider ts))

pub such-all : {A : Type 0} (xs : List A) → such (λ (x : A). true) xs ≡ xs
such-all [] = refl
such-all {A} (x ∷ xs) = ap (λ (ys : List A). x ∷ ys) (such-all xs)

-- those that a test takes, by another test
pub such-parted : {A : Type 0} (h p : A → Bool) (xs : List A) → length (such p xs) ≡ length (such p (such h xs)) + length (such p (such (λ (x : A). not (h x)) xs))
such-parted h p [] = refl
such-parted h p (x ∷ xs) =
    let k = such-parted h p xs in
    by (h x)
    (λ y. rw y (by (p x) (λ z. rw z (omega arith)) (λ z. rw z k)))
    (λ n. rw n (by (p x) (λ z. rw z (omega arith)) (λ z. rw z k)))
