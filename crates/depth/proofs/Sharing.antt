-- The groups that have two buckets are worked out again with the first, so that the second's are not all asked for. Assumes nothing.
use Rattle.std.proofs.Common.{◌≡◌, refl, sym, ap, ◌∙◌, List, ◌∷◌, ◌++◌, ℕ, zero, suc, ◌-◌, ◌/◌, min, ◌≤◌, ◌<◌, arith, length, get_or}
use Rattle.std.proofs.lemmas.Nat.{xor_shr, xor_lt, and_le_l, and_le_r}
use Rattle.std.specs.Int.Bits.{bit_xor, xor_add_and}
use Rattle.rules.specs.Minima.{size, half, top}
use Rattle.depth.specs.Minima.{leaf-place, lifted, lifted-above, LiftedTo}
use Rattle.depth.proofs.Groups.{size-power}
use Rattle.depth.proofs.Places.{by-half, group-number, number-first, number-half, number-low, number-high, number-within}
use Rattle.depth.proofs.Lifting.{halves-of, lifted-low, lifted-high, above-none, above-long, above-low, above-high, own-stays}

-- a number halved so often
halved : ℕ → ℕ → ℕ
halved zero n = n
halved (suc j) n = halved j (n / 2)

halved-next : (j n : ℕ) → halved (suc j) n ≡ halved j n / 2
unfolding halved
halved-next zero n = refl
halved-next (suc j) n = halved-next j (n / 2)

-- a bucket's group by its number
number-halved : (k j b : ℕ) → j ≤ k → b < size k → group-number k j b ≡ halved j b
unfolding halved
number-halved k zero b s h = number-first k b h
number-halved k (suc j) b s h = let n = number-half k j b s h in let i = number-halved k j b (omega arith) h in let q = halved-next j b in omega arith

-- numbers that differ in their last j digits alone
xor-half : (a b : ℕ) → bit_xor (a / 2) (b / 2) ≡ bit_xor a b / 2
xor-half a b = sym (xor_shr a b 1)

xor-none : (a b : ℕ) → bit_xor a b ≡ 0 → a ≡ b
xor-none a b e = let x = xor_add_and a b in let l = and_le_l a b in let r = and_le_r a b in omega arith

same-halved : (j a b : ℕ) → bit_xor a b < size j → halved j a ≡ halved j b
unfolding size halved
same-halved zero a b h = xor-none a b (omega arith)
same-halved (suc j) a b h = let x = xor-half a b in same-halved j (a / 2) (b / 2) (omega arith)

-- .. are of one group
pub shared : (k j a b : ℕ) → j ≤ k → a < size k → b < size k → bit_xor a b < size j → group-number k j a ≡ group-number k j b
shared k j a b s g h x = number-halved k j a s g ∙ same-halved j a b x ∙ sym (number-halved k j b s h)

-- two buckets in the whole differ in its digits alone
pub xor-within : (k a b : ℕ) → a < size k → b < size k → bit_xor a b < size k
xor-within k a b g h = let p = size-power k in let x = xor_lt k a b (omega arith) (omega arith) in omega arith

-- a top that was worked out is worked out again
module _ (k t : ℕ) (l r : List ℕ) (a u : ℕ) (c : length l ≡ half k) where
  again : lifted (suc k) (t ∷ l ++ r) a ≡ lifted (suc k) (u ∷ l ++ r) a
  again = by-half a (size k)
      (λ d. lifted-low k t l r a c d ∙ sym (lifted-low k u l r a c d))
      (λ d. lifted-high k t l r a c d ∙ sym (lifted-high k u l r a c d))

-- the groups above bucket b that have bucket a too need not be worked out before a's
pub above-shared : (k j : ℕ) (ws : List ℕ) (a b : ℕ) → length ws ≡ half k → a < size k → b < size k
    → (j < k → group-number k (suc j) a ≡ group-number k (suc j) b) → lifted k (lifted-above k j ws b) a ≡ lifted k ws a
unfolding size
above-shared zero j ws a b e g h n = ap (λ (x : List ℕ). lifted 0 x a) (above-none 0 j ws b (omega arith))
above-shared (suc k) j ws a b e g h n =
    by-half j (suc k)
    (λ s.
    let w = halves-of k ws e in
    let t = w.first in
    let l = w.left in
    let r = w.right in
    let c = w.left-long in
    let d = w.right-long in
    rw w.words (by-half j k
    (λ u.
    let q = n s in
    by-half a (size k)
    (λ x.
    let na = number-low k (suc j) a u x in
    by-half b (size k)
    (λ y.
    let nb = number-low k (suc j) b u y in
    let i = above-shared k j l a b c x y (λ z. omega arith) in
    let m = lifted-above k j l b in
    rw (above-low k j (omega arith) t l r b c y)
    (lifted-low k (min (top m) (top r)) m r a (above-long k j l b c y) x ∙ rw i (sym (lifted-low k t l r a c x))))
    (λ y.
    let nb = number-high k (suc j) b u y in
    let within = number-within k (suc j) a u x in
    absurd (omega arith)))
    (λ x.
    let na = number-high k (suc j) a u x in
    by-half b (size k)
    (λ y.
    let nb = number-low k (suc j) b u y in
    let within = number-within k (suc j) b u y in
    absurd (omega arith))
    (λ y.
    let nb = number-high k (suc j) b u y in
    let i = above-shared k j r (a - size k) (b - size k) d (omega arith) (omega arith) (λ z. omega arith) in
    let m = lifted-above k j r (b - size k) in
    rw (above-high k j (omega arith) t l r b c y)
    (lifted-high k (min (top l) (top m)) l m a c x ∙ rw i (sym (lifted-high k t l r a c x))))))
    (λ u.
    by-half b (size k)
    (λ y. rw (above-low k j (omega arith) t l r b c y, above-none k j l b u) (again k (min (top l) (top r)) l r a t c))
    (λ y. rw (above-high k j (omega arith) t l r b c y, above-none k j r (b - size k) u) (again k (min (top l) (top r)) l r a t c)))))
    (λ s. ap (λ (x : List ℕ). lifted (suc k) x a) (above-none (suc k) j ws b s))

-- what a lift of bucket b up to some size leaves: the own words stay ..
module _ (k : ℕ) (old : List ℕ) (b most : ℕ) (now : List ℕ) (e : length old ≡ half k) (h : b < size k) (w : LiftedTo k old b most now) where
  pub own-kept : (a at : ℕ) → a < size k → at ≡ leaf-place k a → get_or now at 0 ≡ get_or old at 0
  own-kept a at g q =
      let u = lifted-above k w.level now b in
      rw q (sym (own-stays k now a b w.long g h)
      ∙ ap (λ (x : List ℕ). get_or x (leaf-place k a) 0) (sym (above-shared k w.level now b b w.long h h (λ s. refl)))
      ∙ own-stays k u a b (above-long k w.level now b w.long h) g h
      ∙ ap (λ (x : List ℕ). get_or x (leaf-place k a) 0) w.rest
      ∙ own-stays k old a b e g h)

  -- .. and the lift of bucket a leaves what it would after a lift of all
  pub as-all : (a : ℕ) → a < size k → most ≡ bit_xor a b → lifted k now a ≡ lifted k (lifted k old b) a
  as-all a g q =
      let u = w.up-to in
      sym (above-shared k w.level now a b w.long g h (λ s. shared k (suc w.level) a b s g h (omega arith))) ∙ ap (λ (x : List ℕ). lifted k x a) w.rest
