-- Lists padded with zeros. Assumes nothing.
use Rattle.std.proofs.Common.{◌≡◌, refl, sym, ap, ◌∙◌, List, [], ◌∷◌, ◌++◌, append_assoc, ℕ, zero, suc, ◌+◌, ◌-◌, ◌≤◌, ◌<◌, arith, length, take, drop, set, replicate, length-append, length-take, take_at}
use lib.ListN.{length-replicate}
use lib.Seq.{sets, sets-eq, set_out, take-append-add, take-append-le, drop-append-add, set-append_left, take-set-le, take-set-lt}
use Rattle.refine_row.specs.Encode.{padded}

abbrev pub zeros : ℕ → List ℕ
zeros n = replicate n 0

take-zeros : (m n : ℕ) → m ≤ n → take m (zeros n) ≡ zeros m
take-zeros zero n h = refl
take-zeros (suc m) zero h = absurd (omega arith)
take-zeros (suc m) (suc n) h = ap (λ (t : List ℕ). 0 ∷ t) (take-zeros m n (omega arith))

drop-zeros : (m n : ℕ) → m ≤ n → drop m (zeros n) ≡ zeros (n - m)
drop-zeros zero n h = rw whole
  where
    whole : n - 0 ≡ n
    whole = omega arith
drop-zeros (suc m) zero h = absurd (omega arith)
drop-zeros (suc m) (suc n) h = drop-zeros m n (omega arith) ∙ rw less
  where
    less : suc n - suc m ≡ n - m
    less = omega arith

pub padded-fits : (n : ℕ) (xs : List ℕ) → length xs ≤ n → padded n xs ≡ xs ++ replicate (n - length xs) 0
unfolding padded
padded-fits n xs h =
    let e : n ≡ length xs + (n - length xs) = omega arith in
    ap (λ (k : ℕ). take k (xs ++ replicate n 0)) e ∙ take-append-add xs (replicate n 0) (n - length xs) ∙ ap (λ (t : List ℕ). xs ++ t) (take-zeros (n - length xs) n (omega arith))

pub padded-length : (n : ℕ) (xs : List ℕ) → length (padded n xs) ≡ n
unfolding padded
padded-length n xs = simp (length-take, length-append, length-replicate) (omega arith)

module _ (n : ℕ) (xs ys : List ℕ) where
  pub padded-out : n ≤ length xs → padded n (xs ++ ys) ≡ padded n xs
  unfolding padded
  padded-out h = rw append_assoc (take-append-le n xs (ys ++ replicate n 0) h ∙ sym (take-append-le n xs (replicate n 0) h))

  module _ (h : length xs + length ys ≤ n) where
    left : n - length xs - length ys ≡ n - length (xs ++ ys)
    left = omega (arith, length-append xs ys)

    front : (take (length xs) (xs ++ zeros (n - length xs)) ++ ys) ++ drop (length xs + length ys) (xs ++ zeros (n - length xs)) ≡ (xs ++ ys) ++ zeros (n - length (xs ++ ys))
    front = rw (take_at xs (replicate (n - length xs) 0) (length xs) refl, drop-append-add xs (replicate (n - length xs) 0) (length ys), drop-zeros (length ys) (n - length xs) (omega arith), left)

    -- what is stored past the end of what is there
    pub stored : sets (padded n xs) (length xs) ys ≡ padded n (xs ++ ys)
    stored =
        let k : length xs + length ys ≤ length (padded n xs) = rw padded-length h in
        sets-eq ys (padded n xs) (length xs) k
        ∙ rw (padded-fits n xs (omega arith), padded-fits n (xs ++ ys) (rw length-append h)) front

pub sets-out : (ys l : List ℕ) (i : ℕ) → length l ≤ i → sets l i ys ≡ l
sets-out [] l i h = refl
sets-out (y ∷ ys) l i h = rw (set_out l i y h) (sets-out ys l (suc i) (omega arith))

-- stored where there is room, lost where there is none
pub stored-any : (n : ℕ) (xs ys : List ℕ) (i : ℕ) → i ≡ length xs → (length xs < n → length xs + length ys ≤ n) → sets (padded n xs) i ys ≡ padded n (xs ++ ys)
stored-any n xs ys i e h = rw e (go (n - length xs) refl)
  where
    go : (k : ℕ) → n - length xs ≡ k → sets (padded n xs) (length xs) ys ≡ padded n (xs ++ ys)
    go zero q = sets-out ys (padded n xs) (length xs) (rw padded-length (omega arith)) ∙ sym (padded-out n xs ys (omega arith))
    go (suc k) q = stored n xs ys (h (omega arith))

-- after the first part
pub set_after : (xs ys : List ℕ) (i v : ℕ) → set (xs ++ ys) (length xs + i) v ≡ xs ++ set ys i v
set_after [] ys i v = rw whole
  where
    whole : 0 + i ≡ i
    whole = omega arith
set_after (x ∷ xs) ys i v = rw more (ap (λ (t : List ℕ). x ∷ t) (set_after xs ys i v))
  where
    more : suc (length xs) + i ≡ suc (length xs + i)
    more = omega arith

-- a store within what is there
pub set-padded : (n : ℕ) (xs : List ℕ) (i v : ℕ) → i < length xs → set (padded n xs) i v ≡ padded n (set xs i v)
unfolding padded
set-padded n xs i v h = rw (← set-append_left xs (zeros n) i v h) (go (n - i) refl)
  where
    go : (k : ℕ) → n - i ≡ k → set (take n (xs ++ zeros n)) i v ≡ take n (set (xs ++ zeros n) i v)
    go zero q = set_out (take n (xs ++ zeros n)) i v (rw length-take (omega arith)) ∙ sym (take-set-le n (xs ++ zeros n) i v (omega arith))
    go (suc k) q = sym (take-set-lt n (xs ++ zeros n) i v (omega arith))
