-- Tables that are filled from the start. Assumes nothing.
use Rattle.std.proofs.Common.{◌≡◌, refl, sym, ap, ◌∙◌, List, [], ◌∷◌, ◌++◌, append_assoc, ℕ, zero, suc, ◌+◌, ◌-◌, ◌*◌, ◌≤◌, ◌<◌, mul-suc, arith, length, get_or, take, drop, set, replicate, length-append, take_at, drop_at}
use lib.ListN.{length-replicate}
use lib.Seq.{drop-append-add, set_at, get_or_at}
use Rattle.rules.specs.Lists.{join}
use Rattle.cmd.specs.Attrs.{words-at}
use Rattle.refine_steps.specs.Lent.{table}

module _ {A : Type 0} where
  drop-same : (m n : ℕ) (z : A) → drop m (replicate n z) ≡ replicate (n - m) z
  drop-same zero n z = let e : n - 0 ≡ n = omega arith in rw e
  drop-same (suc m) zero z = let e : 0 - suc m ≡ 0 = omega arith in rw e
  drop-same (suc m) (suc n) z = let e : suc n - suc m ≡ n - m = omega arith in rw e (drop-same m n z)

  pub table-length : (z : A) (n : ℕ) (xs : List A) → length xs ≤ n → length (table z n xs) ≡ n
  unfolding table
  table-length z n xs h = simp (length-append, length-replicate) (omega arith)

  -- written after what is there
  pub table_more : (z : A) (n k : ℕ) (xs ys : List A) → length xs ≡ k → words-at (table z n xs) k ys ≡ table z n (xs ++ ys)
  unfolding table
  table_more z n k xs ys e =
      let q : n - length xs - length ys ≡ n - length (xs ++ ys) = omega (arith, length-append xs ys) in
      rw (take_at xs (replicate (n - length xs) z) k e, ← e, drop-append-add xs (replicate (n - length xs) z) (length ys), drop-same (length ys) (n - length xs) z, q)

module _ {A B : Type 0} (f : A → List B) where
  pub join-append : (xs ys : List A) → join f (xs ++ ys) ≡ join f xs ++ join f ys
  join-append [] ys = refl
  join-append (x ∷ xs) ys = rw (join-append xs ys) (sym (append_assoc (f x) (join f xs) (join f ys)))

  pub join-length : (k : ℕ) → ((x : A) → length (f x) ≡ k) → (xs : List A) → length (join f xs) ≡ k * length xs
  join-length k e [] = omega arith
  join-length k e (x ∷ xs) = length-append (f x) (join f xs) ∙ times_more k (length xs) (length (f x)) (length (join f xs)) (e x) (join-length k e xs)
    where
      times_more : (k n a b : ℕ) → a ≡ k → b ≡ k * n → a + b ≡ k * suc n
      times_more k n a b p q = rw (p, q, mul-suc k n) (omega arith)

-- one place written after what is there
pub table-set : {A : Type 0} (z : A) (n k : ℕ) (xs : List A) (v : A) → length xs ≡ k → k < n → set (table z n xs) k v ≡ table z n (xs ++ (v ∷ []))
unfolding table
table-set z n k xs v e h =
    let p : n - length xs ≡ suc (n - suc k) = omega arith in
    let q : n - length (xs ++ (v ∷ [])) ≡ n - suc k = omega (arith, length-append xs (v ∷ [])) in
    rw (p, q, set_at xs z (replicate (n - suc k) z) v k e) (sym (append_assoc xs (v ∷ []) (replicate (n - suc k) z)))

pub replicate-add : {A : Type 0} (m n : ℕ) (z : A) → replicate m z ++ replicate n z ≡ replicate (m + n) z
replicate-add zero n z = let e : 0 + n ≡ n = omega arith in rw e
replicate-add (suc m) n z = let e : suc m + n ≡ suc (m + n) = omega arith in rw e (ap (λ t. z ∷ t) (replicate-add m n z))

-- places that are cleared again
pub table-clear : {A : Type 0} (z : A) (n k m : ℕ) (xs ys : List A) → length xs ≡ k → length ys ≡ m → k + m ≤ n → words-at (table z n (xs ++ ys)) k (replicate m z) ≡ table z n xs
unfolding table
table-clear z n k m xs ys e g h =
    let p : k + length (replicate m z) ≡ length (xs ++ ys) = omega (arith, length-append xs ys, length-replicate m z) in
    let q : m + (n - length (xs ++ ys)) ≡ n - length xs = omega (arith, length-append xs ys) in
    let c : take k (xs ++ ys ++ replicate (n - length (xs ++ ys)) z) ≡ xs = rw append_assoc (take_at xs (ys ++ replicate (n - length (xs ++ ys)) z) k e) in
    let d : drop (length (xs ++ ys)) (xs ++ ys ++ replicate (n - length (xs ++ ys)) z) ≡ replicate (n - length (xs ++ ys)) z = drop_at (xs ++ ys) (replicate (n - length (xs ++ ys)) z) (length (xs ++ ys)) refl in
    rw (c, p, d, append_assoc xs (replicate m z) (replicate (n - length (xs ++ ys)) z), replicate-add m (n - length (xs ++ ys)) z, q)

pub table-unset : {A : Type 0} (z : A) (n k : ℕ) (xs : List A) (v : A) → length xs ≡ k → k < n → set (table z n (xs ++ (v ∷ []))) k z ≡ table z n xs
unfolding table
table-unset z n k xs v e h =
    let p : n - length xs ≡ suc (n - suc k) = omega arith in
    let q : n - length (xs ++ (v ∷ [])) ≡ n - suc k = omega (arith, length-append xs (v ∷ [])) in
    rw (p, q, append_assoc xs (v ∷ []) (replicate (n - suc k) z)) (set_at xs v (replicate (n - suc k) z) z k e)

pub set_after : {A : Type 0} (xs ys : List A) (i : ℕ) (v : A) → set (xs ++ ys) (length xs + i) v ≡ xs ++ set ys i v
set_after [] ys i v = let e : 0 + i ≡ i = omega arith in rw e
set_after (x ∷ xs) ys i v = let e : suc (length xs) + i ≡ suc (length xs + i) = omega arith in rw e (ap (λ t. x ∷ t) (set_after xs ys i v))

pub table-last : {A : Type 0} (z d : A) (n k : ℕ) (xs : List A) (v : A) (ys : List A) → length xs ≡ k → get_or (table z n (xs ++ (v ∷ [])) ++ ys) k d ≡ v
unfolding table
table-last z d n k xs v ys e = rw (append_assoc xs (v ∷ []), append_assoc xs) (get_or_at xs v (replicate (n - length (xs ++ (v ∷ []))) z ++ ys) d k e)
