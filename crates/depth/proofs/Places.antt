-- Where the groups that have a bucket stand, by their sizes. Assumes nothing.
use Rattle.std.proofs.Common.{◌≡◌, refl, sym, ap, ◌∙◌, Bool, true, false, cond, ℕ, zero, suc, ◌+◌, ◌-◌, ◌*◌, ◌/◌, ◌%◌, ◌^◌, ◌≤◌, ◌<◌, arith, leb, ltb, le-leb, lt-ltb, le-ltb, ltb-true, ltb-false, not-suc-le-zero}
use Rattle.std.proofs.Math.Nat.{pow-suc}
use native.Mathlib.Nat.{sub-zero}
use borrow.Author.Tests.{lt-leb}
use lib.Count.{ones, ones_cat, ones-ones}
use Rattle.std.proofs.lemmas.Nat.Bits.{ones_shr}
use Rattle.std.proofs.lemmas.Nat.{leading_length}
use Rattle.std.specs.Int.Count.{count_leading_zeros}
use Rattle.rules.specs.Minima.{size, half, minima-room}
use Rattle.rules.proofs.laws.Minima.{size-some, half-is, half-next}
use Rattle.depth.specs.Minima.{leaf-place}
use Rattle.depth.proofs.Groups.{half-zero, size-power, room-of-power}

-- by the half that has bucket b, s being where the right half begins
pub by-half : {C : Type 0} (b s : ℕ) → (b < s → C) → (s ≤ b → C) → C
by-half {C} b s low high = go (ltb b s) refl
  where
    go : (t : Bool) → ltb b s ≡ t → C
    go true e = low (ltb-true b s e)
    go false e = high (ltb-false b s e)

-- groups of as many words are of as many buckets
pub half-same : (k m : ℕ) → half k ≡ half m → k ≡ m
half-same zero zero e = refl
half-same zero (suc m) e = let a = half-zero in let b = half-next m in let c = half-is m in let d = size-some m in absurd (omega arith)
half-same (suc k) zero e = let a = half-zero in let b = half-next k in let c = half-is k in let d = size-some k in absurd (omega arith)
half-same (suc k) (suc m) e = let a = half-next k in let b = half-next m in ap suc (half-same k m (omega arith))

-- an own word's place: a group of one bucket's is the first, the others are in one of the halves
pub leaf-one : (b : ℕ) → leaf-place 0 b ≡ 0
unfolding leaf-place
leaf-one b = refl

pub leaf-low : (k b : ℕ) → b < size k → leaf-place (suc k) b ≡ 1 + leaf-place k b
unfolding leaf-place
leaf-low k b h = rw (lt-ltb b (size k) h)

pub leaf-high : (k b : ℕ) → size k ≤ b → leaf-place (suc k) b ≡ 1 + half k + leaf-place k (b - size k)
unfolding leaf-place
leaf-high k b h = rw (le-ltb b (size k) h)

-- the set digits of a bucket's number in the right half
ones-high : (k b : ℕ) → size k ≤ b → b < size k + size k → ones b ≡ 1 + ones (b - size k)
ones-high k b h g =
    let p = size-power k in
    let c = ones_cat k 1 (b - size k) (omega arith) in
    let o : ones 1 ≡ 1 = ones-ones 1 in
    let e : 1 * 2 ^ k + (b - size k) ≡ b = omega arith in
    rw e at c ∙ rw o refl

-- twice the number, and one word for each group above, less those that it passes on the right
pub leaf-sum : (k b : ℕ) → b < size k → leaf-place k b + ones b ≡ 2 * b + k
unfolding leaf-place size ones
leaf-sum zero b h = let e : b ≡ 0 = omega arith in rw e refl
leaf-sum (suc k) b h =
    by-half b (size k)
    (λ l. let i = leaf-sum k b l in let p = leaf-low k b l in omega arith)
    (λ g.
    let i = leaf-sum k (b - size k) (omega arith) in
    let p = leaf-high k b g in
    let o = ones-high k b g h in
    let f = half-is k in
    omega arith)

-- it is within the group
pub leaf-within : (k b : ℕ) → b < size k → leaf-place k b < half k
unfolding leaf-place size
leaf-within zero b h = let f = half-is 0 in omega arith
leaf-within (suc k) b h =
    let n = half-next k in
    by-half b (size k)
    (λ l. let i = leaf-within k b l in let p = leaf-low k b l in omega arith)
    (λ g. let i = leaf-within k (b - size k) (omega arith) in let p = leaf-high k b g in omega arith)

-- later buckets' words stand later
pub leaf-ordered : (k a b : ℕ) → a ≤ b → b < size k → leaf-place k a ≤ leaf-place k b
unfolding leaf-place size
leaf-ordered zero a b h g = omega arith
leaf-ordered (suc k) a b h g =
    by-half b (size k)
    (λ l. let i = leaf-ordered k a b h l in let p = leaf-low k a (omega arith) in let q = leaf-low k b l in omega arith)
    (λ u.
    let q = leaf-high k b u in
    by-half a (size k)
    (λ l. let p = leaf-low k a l in let w = leaf-within k a l in omega arith)
    (λ l. let p = leaf-high k a l in let i = leaf-ordered k (a - size k) (b - size k) (omega arith) (omega arith) in omega arith))

-- how many set digits a group's number of words has
pub ones-half : (k : ℕ) → ones (half k) ≡ suc k
unfolding half
ones-half k = rw (size-power (suc k)) (ones-ones (suc k))

-- all digits up to the highest of 2 n - 1 are a row's minima
pub room-of-digits : (n : ℕ) → n ≤ 2 ^ 62 → (n ≡ 0 → ⊥) → 18446744073709551615 / 2 ^ count_leading_zeros 64 (2 * n - 1) ≡ minima-room n
room-of-digits n h z =
    let l = leading_length 64 (2 * n - 1) (omega arith) in
    digits l.0 l.1 l.2 l.3
  where
    digits : (m : ℕ) → count_leading_zeros 64 (2 * n - 1) + m ≡ 64 → 2 * n - 1 < 2 ^ m → 2 ^ m ≤ 2 * (2 * n - 1) + 1
        → 18446744073709551615 / 2 ^ count_leading_zeros 64 (2 * n - 1) ≡ minima-room n
    digits zero e a b = absurd (omega arith)
    digits (suc j) e a b =
        let p = pow-suc 2 j in
        let r = room-of-power n (2 ^ j) (j, refl) (omega arith) (omega arith) z in
        let d : 64 - count_leading_zeros 64 (2 * n - 1) ≡ suc j = omega arith in
        let s = ones_shr 64 (count_leading_zeros 64 (2 * n - 1)) (omega arith) in
        let t : 18446744073709551615 / 2 ^ count_leading_zeros 64 (2 * n - 1) ≡ 2 ^ suc j - 1 = rw d at s in
        omega arith

-- where the group of 2 ^ j that has bucket b stands in a group of 2 ^ k ..
unfoldable pub group-place : ℕ → ℕ → ℕ → ℕ
group-place zero j b = 0
group-place (suc k) j b = cond (leb (suc k) j) 0 (cond (ltb b (size k)) (suc (group-place k j b)) (suc (half k + group-place k j (b - size k))))

-- .. and which it is of them, from the left
unfoldable pub group-number : ℕ → ℕ → ℕ → ℕ
group-number zero j b = 0
group-number (suc k) j b = cond (leb (suc k) j) 0 (cond (ltb b (size k)) (group-number k j b) (group-number k j (b - size k) + size (k - j)))

-- the whole group stands first
pub whole-place : (k j b : ℕ) → k ≤ j → group-place k j b ≡ 0
unfolding group-place
whole-place zero j b h = refl
whole-place (suc k) j b h = rw (le-leb (suc k) j h)

whole-number : (k j b : ℕ) → k ≤ j → group-number k j b ≡ 0
unfolding group-number
whole-number zero j b h = refl
whole-number (suc k) j b h = rw (le-leb (suc k) j h)

module _ (k j b : ℕ) (s : j ≤ k) where
  -- a smaller one, in one of the halves
  pub place-low : b < size k → group-place (suc k) j b ≡ suc (group-place k j b)
  unfolding group-place
  place-low h = rw (lt-leb (suc k) j (omega arith), lt-ltb b (size k) h)

  pub place-high : size k ≤ b → group-place (suc k) j b ≡ suc (half k + group-place k j (b - size k))
  unfolding group-place
  place-high h = rw (lt-leb (suc k) j (omega arith), le-ltb b (size k) h)

  pub number-low : b < size k → group-number (suc k) j b ≡ group-number k j b
  unfolding group-number
  number-low h = rw (lt-leb (suc k) j (omega arith), lt-ltb b (size k) h)

  pub number-high : size k ≤ b → group-number (suc k) j b ≡ group-number k j (b - size k) + size (k - j)
  unfolding group-number
  number-high h = rw (lt-leb (suc k) j (omega arith), le-ltb b (size k) h)

-- a bucket's own word is the place of its group of one
pub leaf-is : (k b : ℕ) → leaf-place k b ≡ group-place k 0 b
unfolding leaf-place
leaf-is zero b = sym (whole-place 0 0 b (omega arith))
leaf-is (suc k) b =
    by-half b (size k)
    (λ l. let p = leaf-low k b l in let i = leaf-is k b in let q = place-low k 0 b (omega arith) l in omega arith)
    (λ g. let p = leaf-high k b g in let i = leaf-is k (b - size k) in let q = place-high k 0 b (omega arith) g in omega arith)

-- .. and its number that of this group
pub number-first : (k b : ℕ) → b < size k → group-number k 0 b ≡ b
unfolding size
number-first zero b h = whole-number 0 0 b (omega arith) ∙ omega arith
number-first (suc k) b h =
    by-half b (size k)
    (λ l. number-low k 0 b (omega arith) l ∙ number-first k b l)
    (λ g. let n = number-high k 0 b (omega arith) g in let i = number-first k (b - size k) (omega arith) in let z = ap size (sub-zero k) in omega arith)

-- .. of as many as there are
pub number-within : (k j b : ℕ) → j ≤ k → b < size k → group-number k j b < size (k - j)
unfolding size
number-within zero j b s h = let w = whole-number 0 j b (omega arith) in let o = size-some (0 - j) in omega arith
number-within (suc k) j b s h =
    by-half k j
    (λ l. let w = whole-number (suc k) j b l in let o = size-some (suc k - j) in omega arith)
    (λ l.
    by-half j (suc k)
    (λ d.
    let q : suc k - j ≡ suc (k - j) = omega arith in
    let z : size (suc k - j) ≡ size (k - j) + size (k - j) = ap size q in
    by-half b (size k)
    (λ c. let n = number-low k j b (omega arith) c in let i = number-within k j b (omega arith) c in omega arith)
    (λ c. let n = number-high k j b (omega arith) c in let i = number-within k j (b - size k) (omega arith) (omega arith) in omega arith))
    (λ d. absurd (omega arith)))

-- the groups' words are all within the group
pub place-within : (k j b : ℕ) → j ≤ k → b < size k → group-place k j b + half j ≤ half k
unfolding size
place-within zero j b s h = let w = whole-place 0 j b (omega arith) in let q : j ≡ 0 = omega arith in let f = ap half q in omega arith
place-within (suc k) j b s h =
    by-half k j
    (λ l. let q : j ≡ suc k = omega arith in let w = whole-place (suc k) j b l in let f = ap half q in omega arith)
    (λ l.
    let n = half-next k in
    by-half b (size k)
    (λ d. let p = place-low k j b l d in let i = place-within k j b l d in omega arith)
    (λ g. let p = place-high k j b l g in let i = place-within k j (b - size k) l (omega arith) in omega arith))

-- a larger group's number is half of it
pub number-half : (k j b : ℕ) → j < k → b < size k → group-number k (suc j) b ≡ group-number k j b / 2
unfolding size
number-half zero j b s h = absurd (not-suc-le-zero s)
number-half (suc k) j b s h =
    by-half j k
    (λ l.
    let q : k - j ≡ suc (k - suc j) = omega arith in
    let z : size (k - j) ≡ size (k - suc j) + size (k - suc j) = ap size q in
    by-half b (size k)
    (λ d. let a = number-low k (suc j) b l d in let c = number-low k j b (omega arith) d in let i = number-half k j b l d in omega arith)
    (λ g.
    let a = number-high k (suc j) b l g in
    let c = number-high k j b (omega arith) g in
    let i = number-half k j (b - size k) l (omega arith) in
    omega arith))
    (λ l.
    let q : k - j ≡ 0 = omega arith in
    let z : size (k - j) ≡ 1 = ap size q in
    let w = whole-number (suc k) (suc j) b (omega arith) in
    by-half b (size k)
    (λ d. let a = number-low k j b (omega arith) d in let c = whole-number k j b l in omega arith)
    (λ g. let a = number-high k j b (omega arith) g in let c = whole-number k j (b - size k) l in omega arith))

-- a group of even number is a left half, one of odd number a right half
pub record Turned (k j b : ℕ) : Type 0 where
  pub even : group-number k j b % 2 ≡ 0 → group-place k j b ≡ suc (group-place k (suc j) b)
  pub odd : 0 < group-number k j b % 2 → group-place k j b ≡ suc (half j + group-place k (suc j) b)

pub turn : (k j b : ℕ) → j < k → b < size k → Turned k j b
unfolding size
turn zero j b s h = absurd (not-suc-le-zero s)
turn (suc k) j b s h =
    by-half j k
    (λ l.
    let q : k - j ≡ suc (k - suc j) = omega arith in
    let z : size (k - j) ≡ size (k - suc j) + size (k - suc j) = ap size q in
    by-half b (size k)
    (λ d.
    let i = turn k j b l d in
    let a = place-low k j b (omega arith) d in
    let c = place-low k (suc j) b l d in
    let n = number-low k j b (omega arith) d in
    record { even = λ m. let r = i.even (omega arith) in omega arith; odd = λ m. let r = i.odd (omega arith) in omega arith })
    (λ g.
    let i = turn k j (b - size k) l (omega arith) in
    let a = place-high k j b (omega arith) g in
    let c = place-high k (suc j) b l g in
    let n = number-high k j b (omega arith) g in
    record { even = λ m. let r = i.even (omega arith) in omega arith; odd = λ m. let r = i.odd (omega arith) in omega arith }))
    (λ l.
    let q : j ≡ k = omega arith in
    let o : k - j ≡ 0 = omega arith in
    let z : size (k - j) ≡ 1 = ap size o in
    let f = ap half q in
    let w = whole-place (suc k) (suc j) b (omega arith) in
    by-half b (size k)
    (λ d.
    let a = place-low k j b (omega arith) d in
    let c = whole-place k j b l in
    let n = number-low k j b (omega arith) d in
    let y = whole-number k j b l in
    record { even = λ m. omega arith; odd = λ m. absurd (omega arith) })
    (λ g.
    let a = place-high k j b (omega arith) g in
    let c = whole-place k j (b - size k) l in
    let n = number-high k j b (omega arith) g in
    let y = whole-number k j (b - size k) l in
    record { even = λ m. absurd (omega arith); odd = λ m. omega arith }))
