-- Places read one after the other.
use Rattle.std.proofs.Common.{◌≡◌, refl, sym, ◌∙◌, ℕ, zero, suc, ◌+◌, ◌-◌, ◌≤◌, ◌<◌, le_refl, arith, true, false, List, [], ◌∷◌, Option, None, Some, is_some, is_none, option_map, option_and_then}
use Rattle.compact.specs.Reading.{all-from}

-- one place, then others
abbrev pub and-then : {A : Type 0} → Option A → Option (List A) → Option (List A)
and-then o r = option_and_then (λ x. option_map (λ xs. x ∷ xs) r) o

then-none : {A : Type 0} (o : Option A) → and-then o None ≡ None
then-none None = refl
then-none (Some x) = refl

-- what is read at the first place, and at the others
pub record First {A : Type 0} (o : Option A) (r : Option (List A)) (xs : List A) : Type 0 where
  pub first : A
  pub rest : List A
  pub read : o ≡ Some first
  pub more : r ≡ Some rest
  pub whole : xs ≡ first ∷ rest

first-of : {A : Type 0} (o : Option A) (r : Option (List A)) (xs : List A) → and-then o r ≡ Some xs → First o r xs
first-of None r xs e = let z : ◌≡◌ {A = ℕ} 0 1 = cc in absurd (omega arith)
first-of (Some x) None xs e = let z : ◌≡◌ {A = ℕ} 0 1 = cc in absurd (omega arith)
first-of (Some x) (Some ys) xs e = record { first = x; rest = ys; read = refl; more = refl; whole = cc }

some-then : {A : Type 0} (o : Option A) (r : Option (List A)) → is_none o ≡ false → is_some (and-then o r) ≡ is_some r
some-then None r h = let z : ◌≡◌ {A = ℕ} 0 1 = cc in absurd (omega arith)
some-then (Some x) None h = refl
some-then (Some x) (Some ys) h = refl

none-then : {A : Type 0} (o : Option A) (r : Option (List A)) → is_none o ≡ true → is_some (and-then o r) ≡ false
none-then None r h = refl
none-then (Some x) r h = let z : ◌≡◌ {A = ℕ} 0 1 = cc in absurd (omega arith)

module _ {A : Type 0} (f : ℕ → Option A) where
  spoils : (k j : ℕ) → all-from f k j ≡ None → all-from f 0 (k + j) ≡ None
  unfolding all-from
  spoils zero j e = let z : zero + j ≡ j = omega arith in rw z e
  spoils (suc k) j e =
      let z : suc k + j ≡ k + suc j = omega arith in
      rw z (spoils k (suc j) (rw e (then-none (f k))))

  -- a forged one spoils all
  pub spoilt : (count k : ℕ) → k ≤ count → all-from f k (count - k) ≡ None → all-from f 0 count ≡ None
  spoilt count k h e = let z : k + (count - k) ≡ count = omega arith in rw z at (spoils k (count - k) e)

  -- the place k and those behind it
  pub one-first : (count k : ℕ) → k < count → all-from f k (count - k) ≡ and-then (f k) (all-from f (k + 1) (count - (k + 1)))
  unfolding all-from
  one-first count k h =
      let z : count - k ≡ suc (count - (k + 1)) = omega arith in
      let y : k + 1 ≡ suc k = omega arith in
      rw z (rw y refl)

  pub first-read : (count k : ℕ) (xs : List A) → k < count → all-from f k (count - k) ≡ Some xs
      → First (f k) (all-from f (k + 1) (count - (k + 1))) xs
  first-read count k xs h e = first-of _ _ _ (sym (one-first count k h) ∙ e)

  -- none is left
  pub all-read : (count k : ℕ) (xs : List A) → count ≤ k → all-from f k (count - k) ≡ Some xs → xs ≡ []
  unfolding all-from
  all-read count k xs h e = let z : count - k ≡ 0 = omega arith in let q = rw z at e in cc

  pub all-some : (count k : ℕ) → count ≤ k → is_some (all-from f k (count - k)) ≡ true
  unfolding all-from
  all-some count k h = let z : count - k ≡ 0 = omega arith in rw z refl

  pub some-more : (count k : ℕ) → k < count → is_none (f k) ≡ false → is_some (all-from f (k + 1) (count - (k + 1))) ≡ is_some (all-from f k (count - k))
  some-more count k h e = rw (one-first count k h) (sym (some-then (f k) _ e))

  pub none-here : (count k : ℕ) → k < count → is_none (f k) ≡ true → is_some (all-from f k (count - k)) ≡ false
  none-here count k h e = rw (one-first count k h) (none-then (f k) _ e)

-- what is read of places from k on goes by those places alone
pub read-same : {A : Type 0} (f g : ℕ → Option A) (k j : ℕ) → ((i : ℕ) → k ≤ i → f i ≡ g i) → all-from f k j ≡ all-from g k j
unfolding all-from
read-same f g k zero h = refl
read-same f g k (suc j) h = rw (h k (le_refl k), read-same f g (suc k) j (λ i l. h i (omega arith)))
