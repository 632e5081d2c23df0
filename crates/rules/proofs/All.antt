-- Tests joined by "and" and "or", and a fact of each element of a list. Assumes nothing.
use Rattle.std.proofs.Common.{◌≡◌, refl, sym, ap, Bool, true, false, ◌&&◌, ◌||◌, cond, List, [], ◌∷◌, ◌++◌, map, ℕ, zero, suc, ◌<◌, arith, length, get_or, take, drop, replicate}
use Rattle.rules.specs.Lists.{every, some_of, keep, join}

pub data All {A : Type 0} (P : A → Type 0) : List A → Type 0 where
  nil : All P []
  cons : {x : A} {xs : List A} → P x → All P xs → All P (x ∷ xs)

-- true is not false
pub never : {P : Type 0} → ◌≡◌ {A = Bool} true false → P
never p = let z : ◌≡◌ {A = ℕ} 0 1 = ap (λ (t : Bool). cond t 0 1) p in absurd (omega arith)

pub both : (a b : Bool) → (a && b) ≡ true → (a ≡ true) × (b ≡ true)
both true b p = (refl, p)
both false b p = never (sym p)

pub and_left : (a b : Bool) → (a && b) ≡ true → a ≡ true
and_left a b p = (both a b p).0

pub and_right : (a b : Bool) → (a && b) ≡ true → b ≡ true
and_right a b p = (both a b p).1

pub and_both : (a b : Bool) → a ≡ true → b ≡ true → (a && b) ≡ true
and_both a b p q = rw (p, q)

pub neither : (a b : Bool) → (a || b) ≡ false → (a ≡ false) × (b ≡ false)
neither false b p = (refl, p)
neither true b p = never p

pub or_left : (a b : Bool) → (a || b) ≡ false → a ≡ false
or_left a b p = (neither a b p).0

pub or_right : (a b : Bool) → (a || b) ≡ false → b ≡ false
or_right a b p = (neither a b p).1

module _ {A : Type 0} {P : A → Type 0} where
  pub head : {x : A} {xs : List A} → All P (x ∷ xs) → P x
  head (cons p a) = p

  pub tail : {x : A} {xs : List A} → All P (x ∷ xs) → All P xs
  tail (cons p a) = a

  pub all_append : {xs ys : List A} → All P xs → All P ys → All P (xs ++ ys)
  all_append nil b = b
  all_append (cons p a) b = cons p (all_append a b)

  pub all_first : (xs ys : List A) → All P (xs ++ ys) → All P xs
  all_first [] ys a = nil
  all_first (x ∷ xs) ys (cons p a) = cons p (all_first xs ys a)

  pub all_rest : (xs ys : List A) → All P (xs ++ ys) → All P ys
  all_rest [] ys a = a
  all_rest (x ∷ xs) ys (cons p a) = all_rest xs ys a

  pub all_keep : (b : Bool) (x : A) {xs : List A} → P x → All P xs → All P (keep b x xs)
  all_keep true x p a = cons p a
  all_keep false x p a = a

  pub all-if : (b : Bool) {xs ys : List A} → All P xs → All P ys → All P (cond b xs ys)
  all-if true a b = a
  all-if false a b = b

  -- of every element, for whatever reason
  pub all_any : ((x : A) → P x) → (xs : List A) → All P xs
  all_any f [] = nil
  all_any f (x ∷ xs) = cons (f x) (all_any f xs)

  pub all_take : (n : ℕ) {xs : List A} → All P xs → All P (take n xs)
  all_take zero a = nil
  all_take (suc n) nil = nil
  all_take (suc n) (cons p a) = cons p (all_take n a)

  pub all_drop : (n : ℕ) {xs : List A} → All P xs → All P (drop n xs)
  all_drop zero a = a
  all_drop (suc n) nil = nil
  all_drop (suc n) (cons p a) = all_drop n a

  pub all_replicate : (n : ℕ) (x : A) → P x → All P (replicate n x)
  all_replicate zero x p = nil
  all_replicate (suc n) x p = cons p (all_replicate n x p)

  pub all-at : {xs : List A} → All P xs → (i : ℕ) (d : A) → i < length xs → P (get_or xs i d)
  all-at nil i d h = absurd (omega arith)
  all-at (cons p a) zero d h = p
  all-at (cons p a) (suc i) d h = all-at a i d (omega arith)

module _ {A : Type 0} {P Q : A → Type 0} where
  pub all_map : ((x : A) → P x → Q x) → {xs : List A} → All P xs → All Q xs
  all_map f nil = nil
  all_map f (cons {x} p a) = cons (f x p) (all_map f a)

  pub all_both : {xs : List A} → All P xs → All Q xs → All (λ (x : A). P x × Q x) xs
  all_both nil b = nil
  all_both (cons p a) (cons q b) = cons (p, q) (all_both a b)

module _ {A B : Type 0} {Q : B → Type 0} where
  pub all-mapped : (f : A → B) → ((x : A) → Q (f x)) → (xs : List A) → All Q (map f xs)
  all-mapped f g [] = nil
  all-mapped f g (x ∷ xs) = cons (g x) (all-mapped f g xs)

module _ {A B : Type 0} {P : A → Type 0} {Q : B → Type 0} where
  -- through a map, or a map to lists
  pub all-over : (f : A → B) → ((x : A) → P x → Q (f x)) → {xs : List A} → All P xs → All Q (map f xs)
  all-over f g nil = nil
  all-over f g (cons {x} p a) = cons (g x p) (all-over f g a)

  pub all_join : (f : A → List B) → ((x : A) → P x → All Q (f x)) → {xs : List A} → All P xs → All Q (join f xs)
  all_join f g nil = nil
  all_join f g (cons {x} p a) = all_append (g x p) (all_join f g a)

-- a test that says yes, or no, of every element
module _ {A : Type 0} (p : A → Bool) where
  pub every-all : (xs : List A) → every p xs ≡ true → All (λ (x : A). p x ≡ true) xs
  every-all [] e = nil
  every-all (x ∷ xs) e = let h = both (p x) (every p xs) e in cons h.0 (every-all xs h.1)

  pub none_of : (xs : List A) → some_of p xs ≡ false → All (λ (x : A). p x ≡ false) xs
  none_of [] e = nil
  none_of (x ∷ xs) e = let h = neither (p x) (some_of p xs) e in cons h.0 (none_of xs h.1)
