-- How many minima a row and a screen have at most.
use Rattle.std.proofs.Common.{◌≡◌, refl, Bool, true, false, ℕ, zero, suc, ◌*◌, ◌≤◌, mul-le-mul, arith, leb, leb-false}
use Rattle.rules.specs.Minima.{size, halvings-from, halvings, minima-room}
use Rattle.rules.proofs.laws.Minima.{half-is}

when : {C : Type 0} (b : Bool) → (b ≡ true → C) → (b ≡ false → C) → C
when true y n = y refl
when false y n = n refl

-- the search for a row's group ends at one less than twice as large as the row, if it begins there
found-small : (m j n : ℕ) → size j ≤ 2 * n → size (halvings-from m j n) ≤ 2 * n
unfolding size
found-small zero j n a = a
found-small (suc m) j n a =
    when (leb n (size j)) (λ y. rw y a) (λ x. let l = leb-false n (size j) x in rw x (found-small m (suc j) n (omega arith)))

-- a row has at most four minima a bucket
pub few-minima : (n : ℕ) → minima-room n ≤ 4 * n
unfolding minima-room halvings size
few-minima zero = omega arith
few-minima (suc n) =
    let k = halvings-from (suc n) 0 (suc n) in
    let g : size k ≤ 2 * suc n = found-small (suc n) 0 (suc n) (omega arith) in
    let a = half-is k in
    omega arith

-- how many minima a screen has at most
pub few-all : (n b : ℕ) → n ≤ 512 → b ≤ 64 → n * minima-room b ≤ 131072
few-all n b h g = let m = few-minima b in mul-le-mul {n₁ = n} {m₁ = minima-room b} {n₂ = 512} {m₂ = 256} h (omega arith)
