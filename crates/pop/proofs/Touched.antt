-- The touched ones of some rows. Assumes nothing.
use Rattle.std.proofs.Common.{◌≡◌, refl, sym, ap, ◌∙◌, Bool, true, false, List, [], ◌∷◌, ℕ, zero, suc, ◌+◌, ◌-◌, ◌≤◌, ◌<◌, add-one, arith, eqb, eq-eqb, ne_eqb, eqb-true}
use borrow.Author.Tests.{eqb-false}
use Rattle.rules.specs.Lists.{some_of, keep, change, count-from, range}
use Rattle.rules.proofs.All.{All, nil, cons}
use Rattle.rules.proofs.laws.Changes.{change-else}
use Rattle.row.specs.Words.{Words, word}
use Rattle.row.specs.Arena.{nowhere}
use Rattle.pop.specs.Closing.{row_of, touched-in}

-- the rows from a to b, one by one
one_less : (a b : ℕ) → a < b → b - a ≡ suc (b - (a + 1))
one_less a b h = omega arith

none_left : (a b : ℕ) → b ≤ a → b - a ≡ 0
none_left a b h = omega arith

pub range-first : (a b : ℕ) → a < b → range a b ≡ a ∷ range (a + 1) b
range-first a b h = rw (one_less a b h, add-one a)

pub range-end : (a b : ℕ) → b ≤ a → range a b ≡ []
range-end a b h = rw (none_left a b h)

all_from : (k a b : ℕ) → a + k ≤ b → All (λ (x : ℕ). (a ≤ x) × (x < b)) (count-from a k)
all_from zero a b h = nil
all_from (suc k) a b h = let p : (a ≤ a) × (a < b) = (omega arith, omega arith) in cons p (go (all_from k (suc a) b (omega arith)))
  where
    go : {xs : List ℕ} → All (λ (x : ℕ). (suc a ≤ x) × (x < b)) xs → All (λ (x : ℕ). (a ≤ x) × (x < b)) xs
    go nil = nil
    go (cons {x} p ps) = let q : (a ≤ x) × (x < b) = (omega (arith, p.0), p.1) in cons q (go ps)

pub all-range : (a b : ℕ) → All (λ (x : ℕ). (a ≤ x) × (x < b)) (range a b)
all-range a b = go (all_from (b - a) a (a + (b - a)) (omega arith))
  where
    go : {xs : List ℕ} → All (λ (x : ℕ). (a ≤ x) × (x < a + (b - a))) xs → All (λ (x : ℕ). (a ≤ x) × (x < b)) xs
    go nil = nil
    go (cons {x} p ps) = let q : (a ≤ x) × (x < b) = (p.0, omega (arith, p.0, p.1)) in cons q (go ps)

all-keep-if : (P : ℕ → Type 0) (t : Bool) (x : ℕ) {xs : List ℕ} → (t ≡ true → P x) → All P xs → All P (keep t x xs)
all-keep-if P true x p ps = cons (p refl) ps
all-keep-if P false x p ps = ps

not_equal : (x a : ℕ) → a ≤ x → (x ≡ a → ⊥) → suc a ≤ x
not_equal x a h i = omega arith

module _ (n : ℕ) where
  -- levels alone decide
  pub touched-same : (rs ts : List Words) → ((x : ℕ) → word 5 (row_of ts x) ≡ word 5 (row_of rs x)) → (is : List ℕ) → touched-in n ts is ≡ touched-in n rs is
  unfolding touched-in
  touched-same rs ts e [] = refl
  touched-same rs ts e (i ∷ is) = rw (e i, touched-same rs ts e is)

  module _ (rs : List Words) where
    pub touched_none : touched-in n rs [] ≡ []
    unfolding touched-in
    touched_none = refl

    pub touched-cons : (i : ℕ) (is : List ℕ) → touched-in n rs (i ∷ is) ≡ keep (eqb (word 5 (row_of rs i)) n) i (touched-in n rs is)
    unfolding touched-in
    touched-cons i is = refl

    -- a row that changes is not among later rows
    pub touched-later : (f : Words → Words) (r k a : ℕ) → r < a → touched-in n (change f r rs) (count-from a k) ≡ touched-in n rs (count-from a k)
    unfolding touched-in
    touched-later f r zero a h = refl
    touched-later f r (suc k) a h = rw (change-else f r a rs nowhere (λ (e : r ≡ a). omega arith), touched-later f r k (suc a) (omega arith))

    -- what holds of some rows holds of those that are touched, which have n levels
    pub all-touched : {P : ℕ → Type 0} {is : List ℕ} → All P is → All (λ (x : ℕ). P x × (word 5 (row_of rs x) ≡ n)) (touched-in n rs is)
    unfolding touched-in
    all-touched nil = nil
    all-touched {P} (cons {x} {xs} p ps) =
        all-keep-if (λ (y : ℕ). P y × (word 5 (row_of rs y) ≡ n)) (eqb (word 5 (row_of rs x)) n) x (λ e. (p, eqb-true _ _ e)) (all-touched ps)

    -- whether row x is among them
    pub some-other : (x i : ℕ) (t : Bool) (l : List ℕ) → (x ≡ i → ⊥) → some_of (eqb x) (keep t i l) ≡ some_of (eqb x) l
    some-other x i true l h = rw (ne_eqb x i h)
    some-other x i false l h = refl

    pub below : (k a x : ℕ) → x < a → some_of (eqb x) (touched-in n rs (count-from a k)) ≡ false
    unfolding touched-in
    below zero a x h = refl
    below (suc k) a x h =
        some-other x a (eqb (word 5 (row_of rs a)) n) (touched-in n rs (count-from (suc a) k)) (λ (e : x ≡ a). omega arith)
        ∙ below k (suc a) x (omega arith)

    past : (k a x : ℕ) → a + k ≤ x → some_of (eqb x) (touched-in n rs (count-from a k)) ≡ false
    unfolding touched-in
    past zero a x h = refl
    past (suc k) a x h =
        some-other x a (eqb (word 5 (row_of rs a)) n) (touched-in n rs (count-from (suc a) k)) (λ (e : x ≡ a). omega arith)
        ∙ past k (suc a) x (omega arith)

    pub above : (a b x : ℕ) → b ≤ x → a ≤ x → some_of (eqb x) (touched-in n rs (range a b)) ≡ false
    above a b x h g = past (b - a) a x (omega arith)

    here : (x i : ℕ) (t : Bool) (l : List ℕ) → x ≡ i → some_of (eqb x) l ≡ false → some_of (eqb x) (keep t i l) ≡ t
    here x i true l e h = rw (eq-eqb x i e)
    here x i false l e h = h

    among : (k a x : ℕ) → a ≤ x → x < a + k → some_of (eqb x) (touched-in n rs (count-from a k)) ≡ eqb (word 5 (row_of rs x)) n
    unfolding touched-in
    among zero a x h g = absurd (omega arith)
    among (suc k) a x h g = go (eqb x a) refl (λ i. among k (suc a) x (not_equal x a h i) (omega arith))
      where
        go : (t : Bool) → eqb x a ≡ t → ((x ≡ a → ⊥) → some_of (eqb x) (touched-in n rs (count-from (suc a) k)) ≡ eqb (word 5 (row_of rs x)) n)
            → some_of (eqb x) (keep (eqb (word 5 (row_of rs a)) n) a (touched-in n rs (count-from (suc a) k))) ≡ eqb (word 5 (row_of rs x)) n
        go true e f =
            let i : x ≡ a = eqb-true x a e in
            here x a (eqb (word 5 (row_of rs a)) n) (touched-in n rs (count-from (suc a) k)) i (below k (suc a) x (omega arith))
            ∙ ap (λ (y : ℕ). eqb (word 5 (row_of rs y)) n) (sym i)
        go false e f =
            let i : x ≡ a → ⊥ = eqb-false x a e in
            some-other x a (eqb (word 5 (row_of rs a)) n) (touched-in n rs (count-from (suc a) k)) i ∙ f i

    pub inside : (a b x : ℕ) → a ≤ x → x < b → some_of (eqb x) (touched-in n rs (range a b)) ≡ eqb (word 5 (row_of rs x)) n
    inside a b x h g = among (b - a) a x h (omega arith)
