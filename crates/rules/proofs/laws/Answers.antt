-- The number and the value of what `settle` gives. Assumes nothing.
use Rattle.std.proofs.Common.{◌≡◌, refl, sym, Bool, true, false, cond, ℕ, eqb, eqb-true}
use Rattle.rules.specs.Answers.{answer, settle, Done}
use Rattle.rules.proofs.All.{never}

module _ {S : Type 0} (n : ℕ) (s t : S) where
  pub settle-number : (settle n s t).number ≡ n
  settle-number = go (eqb n Done) refl
    where
      go : (c : Bool) → eqb n Done ≡ c → (cond c (answer Done t) (answer n s)).number ≡ n
      go true e = sym (eqb-true n Done e)
      go false e = refl

  pub settle-done : n ≡ Done → (settle n s t).value ≡ t
  settle-done e = rw e

  pub settle-kept : eqb (settle n s t).number Done ≡ false → (settle n s t).value ≡ s
  settle-kept = go (eqb n Done)
    where
      go : (c : Bool) → eqb (cond c (answer Done t) (answer n s)).number Done ≡ false → (cond c (answer Done t) (answer n s)).value ≡ s
      go true e = never e
      go false e = refl
