-- Lists of a known length, word by word.
use Rattle.std.proofs.Common.{◌≡◌, List, [], ◌∷◌, ℕ, zero, suc, arith, length}
use native.Mathlib.Nat.{suc_inj}

-- P of n words, whatever they are
abbrev pub of_words : ℕ → (List ℕ → Type 0) → Type 0
of_words zero P = P []
of_words (suc n) P = (x : ℕ) → of_words n (λ (xs : List ℕ). P (x ∷ xs))

pub by_length : (n : ℕ) (P : List ℕ → Type 0) → of_words n P → (xs : List ℕ) → length xs ≡ n → P xs
by_length zero P p [] e = p
by_length zero P p (x ∷ xs) e = absurd (omega arith)
by_length (suc n) P p [] e = absurd (omega arith)
by_length (suc n) P p (x ∷ xs) e = by_length n (λ (ys : List ℕ). P (x ∷ ys)) (p x) xs (suc_inj e)
