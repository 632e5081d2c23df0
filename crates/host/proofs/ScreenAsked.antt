-- What a host's words ask for, and what a call then gives. Assumes nothing.
use Rattle.std.proofs.Common.{ℕ, ◌≡◌, Result, Ok, Err}
use Rattle.sizes.specs.declared.answers.Refusal.{Refusal}
use Rattle.rules.specs.Answers.{Answer, answer}
use Rattle.host.specs.Asked.{granted}

module _ {A T : Type 0} (o : Result A Refusal) (n : Refusal → ℕ) (t : T) (f : A → Answer T) where
  pub not-asked : (r : Refusal) → Err r ≡ o → answer (n r) t ≡ granted o n t f
  not-asked r e = rw (← e)

  pub as-asked : (q : A) → Ok q ≡ o → f q ≡ granted o n t f
  as-asked q e = rw (← e)
