-- Tiles and buckets by a shift. Assumes nothing.
use Rattle.std.proofs.Common.{◌≡◌, sym, ap, ◌∙◌, ℕ, suc, ◌+◌, ◌-◌, ◌*◌, ◌/◌, ◌%◌, ◌<◌, arith, suc-mul, mod-lt, div-add-mod'}
use Rattle.std.proofs.lemmas.Nat.{div-mul-add}

-- the bucket past the last tile's is the end raised to a whole bucket
pub past_last : (n e : ℕ) → 0 < n → 0 < e → (e - 1) / n + 1 ≡ (e + (n - 1)) / n
past_last n e h g =
    let q : ℕ = (e - 1) / n in
    let parts : q * n + (e - 1) % n ≡ e - 1 = div-add-mod' (e - 1) n in
    let sum : suc q * n + (e - 1) % n ≡ e + (n - 1) = rw (suc-mul q n) (omega (arith, parts)) in
    let whole : (suc q * n + (e - 1) % n) / n ≡ suc q = div-mul-add (suc q) n ((e - 1) % n) (mod-lt (e - 1) h) in
    omega (arith, sym (ap (λ (x : ℕ). x / n) sum) ∙ whole)
