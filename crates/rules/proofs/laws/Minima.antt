-- Laws of the summary above the depth words: how many words a group has, where its halves stand, and how large a row's group is. Assumes nothing.
use Rattle.std.proofs.Common.{◌≡◌, refl, ap, Bool, true, false, List, [], ◌∷◌, ◌++◌, ℕ, zero, suc, ◌+◌, min, ◌≤◌, ◌<◌, arith, length, take, drop, length-append, leb, ltb, eqb, add-zero, add-suc, suc-add, zero-add, leb-true, leb-false, ltb-true, ltb-false, eqb-true}
use Rattle.std.proofs.lemmas.Bool.{eqb-false}
use lib.Seq.{take-append_seam, drop-append_seam}
use Rattle.rules.specs.Minima.{size, top, minima, half, left-half, right-half, halvings-from, halvings, summary, minima-room}

pub size-some : (k : ℕ) → 0 < size k
unfolding size
size-some zero = omega arith
size-some (suc k) = let h = size-some k in omega arith

-- a group of 2 ^ k buckets has 2 * 2 ^ k - 1 words
pub half-is : (k : ℕ) → suc (half k) ≡ size k + size k
unfolding half size
half-is k = let h = size-some k in omega arith

pub half-next : (k : ℕ) → half (suc k) ≡ suc (half k + half k)
unfolding size
half-next k = let a = half-is k in let b = half-is (suc k) in omega arith

pub length-minima : (k : ℕ) (bs : List ℕ) → length (minima k bs) ≡ half k
unfolding minima half size
length-minima zero bs = refl
length-minima (suc k) bs =
    let l = length-minima k (take (size k) bs) in
    let r = length-minima k (drop (size k) bs) in
    let n = half-next k in
    let a = length-append (minima k (take (size k) bs)) (minima k (drop (size k) bs)) in
    omega arith

module _ (k : ℕ) (l r : List ℕ) (t : ℕ) (e : length l ≡ half k) where
  -- a group's words are its top and its halves
  pub left-of : left-half k (t ∷ l ++ r) ≡ l
  left-of = rw (← e) (take-append_seam l r)

  pub right-of : right-half k (t ∷ l ++ r) ≡ r
  right-of = rw (← e) (drop-append_seam l r)

-- the halves of a summary are the summaries of the halves
pub left-is : (k : ℕ) (bs : List ℕ) → left-half k (minima (suc k) bs) ≡ minima k (take (size k) bs)
unfolding minima
left-is k bs = left-of k (minima k (take (size k) bs)) (minima k (drop (size k) bs)) (min (top (minima k (take (size k) bs))) (top (minima k (drop (size k) bs)))) (length-minima k (take (size k) bs))

pub right-is : (k : ℕ) (bs : List ℕ) → right-half k (minima (suc k) bs) ≡ minima k (drop (size k) bs)
unfolding minima
right-is k bs = right-of k (minima k (take (size k) bs)) (minima k (drop (size k) bs)) (min (top (minima k (take (size k) bs))) (top (minima k (drop (size k) bs)))) (length-minima k (take (size k) bs))

-- so that no row is halved more often than it has buckets
pub size-above : (k : ℕ) → k < size k
unfolding size
size-above zero = omega arith
size-above (suc k) = let h = size-above k in omega arith

when : {C : Type 0} (b : Bool) → (b ≡ true → C) → (b ≡ false → C) → C
when true y n = y refl
when false y n = n refl

-- what the search for a row's group finds has room
found-fits : (m j n : ℕ) → n ≤ size (j + m) → n ≤ size (halvings-from m j n)
found-fits zero j n h = rw add-zero at h
found-fits (suc m) j n h =
    when (leb n (size j))
    (λ y. rw y (leb-true n (size j) y))
    (λ x. rw x (found-fits m (suc j) n (rw suc-add (rw add-suc at h))))

pub row-fits : (n : ℕ) → n ≤ size (halvings n)
unfolding halvings size
row-fits n = found-fits n 0 n (rw zero-add (let h = size-above n in omega arith))

-- it is the smallest that has: a group of 2 ^ k that has room, where no smaller one has
found-is : (m j k n : ℕ) → j ≤ k → k ≤ j + m → n ≤ size k → ((i : ℕ) → i < k → size i < n) → halvings-from m j n ≡ k
found-is zero j k n a b c d = omega arith
found-is (suc m) j k n a b c d =
    when (leb n (size j))
    (λ y.
    let l = leb-true n (size j) y in
    rw y (when (ltb j k) (λ z. let q = d j (ltb-true j k z) in absurd (omega arith)) (λ z. let q = ltb-false j k z in omega arith)))
    (λ x.
    let l = leb-false n (size j) x in
    rw x (when (eqb j k)
    (λ z. let q = ap size (eqb-true j k z) in absurd (omega arith))
    (λ z. found-is m (suc j) k n (let q = eqb-false j k z in omega arith) (omega arith) c d)))

pub halvings-are : (k n : ℕ) → k ≤ n → n ≤ size k → ((i : ℕ) → i < k → size i < n) → halvings n ≡ k
unfolding halvings
halvings-are k n a b c = found-is n 0 k n (omega arith) (omega arith) b c

-- how many words a row's summary has
pub length-summary : (bs : List ℕ) → length (summary bs) ≡ minima-room (length bs)
unfolding summary minima-room
length-summary [] = refl
length-summary (b ∷ bs) = length-minima (halvings (suc (length bs))) (b ∷ bs)

-- no fewer than the row has buckets
pub room-covers : (n : ℕ) → n ≤ minima-room n
unfolding minima-room
room-covers zero = omega arith
room-covers (suc n) = let f = row-fits (suc n) in let h = half-is (halvings (suc n)) in let s = size-some (halvings (suc n)) in omega arith
