-- How many minima a row of the programs' screens has at most. Assumes nothing.
use Rattle.std.proofs.Common.{◌≡◌, refl, ap, Bool, true, false, ℕ, zero, suc, ◌+◌, ◌-◌, ◌*◌, ◌≤◌, ◌<◌, mul-le-mul, add-zero, add-suc, arith, leb, leb-false, ltb, ltb-true, ltb-false}
use Rattle.rules.specs.Minima.{size, halvings-from, halvings, minima-room}
use Rattle.rules.proofs.laws.Minima.{half-is}

when : {C : Type 0} (b : Bool) → (b ≡ true → C) → (b ≡ false → C) → C
when true y n = y refl
when false y n = n refl

size-grows : (i d : ℕ) → size i ≤ size (i + d)
unfolding size
size-grows i zero = simp add-zero (omega arith)
size-grows i (suc d) = let h = size-grows i d in simp add-suc (omega arith)

size-larger : (j k : ℕ) → j ≤ k → size j ≤ size k
size-larger j k h = let e : j + (k - j) ≡ k = omega arith in rw e at (size-grows j (k - j))

smaller : (j k : ℕ) → j ≤ k → size j < size k → j < k
smaller j k h g =
    when (ltb j k) (λ y. ltb-true j k y) (λ x. let l = ltb-false j k x in let e : j ≡ k = omega arith in let s = ap size e in absurd (omega arith))

-- the search for a row's group finds none larger than one that has room
found-within : (m j k n : ℕ) → j ≤ k → n ≤ size k → size (halvings-from m j n) ≤ size k
found-within zero j k n h g = size-larger j k h
found-within (suc m) j k n h g =
    when (leb n (size j))
    (λ y. rw y (size-larger j k h))
    (λ x. let l = leb-false n (size j) x in rw x (found-within m (suc j) k n (smaller j k h (omega arith)) g))

pub few-minima : (b : ℕ) → b ≤ 64 → minima-room b ≤ 127
unfolding minima-room halvings size
few-minima zero h = omega arith
few-minima (suc b) h =
    let g : size (halvings-from (suc b) 0 (suc b)) ≤ size 6 = found-within (suc b) 0 6 (suc b) (omega arith) h in
    let a = half-is (halvings-from (suc b) 0 (suc b)) in
    omega arith

-- .. and all its rows
pub few-all : (n b : ℕ) → n ≤ 32 → b ≤ 64 → n * minima-room b ≤ 4064
few-all n b h g = mul-le-mul {n₁ = n} {m₁ = minima-room b} {n₂ = 32} {m₂ = 127} h (few-minima b g)
