-- A text, and then another.
use Rattle.std.proofs.Common.{ℕ, List, [], ◌++◌, Option, Result, Ok, Err, OnOk, subst, append-nil}
use Rattle.std.proofs.KnownBytes.{Appends-trans}
use Rattle.std.specs.Io.KnownBytes.{Appends}
use Rattle.text_programs.specs.Failures.{Begins}
use Rattle.text_programs.proofs.Streaming.{begins_after}

-- a text, and then another, or a beginning of it
module _ (a b c : Option (List ℕ)) (x y : List ℕ) (p : Appends a b x) where
  pub both_done : {E : Type 0} (r : Result (Unit {0}) E) → OnOk r (Appends b c y) → OnOk r (Appends a c (x ++ y))
  both_done (Err e) q = tt
  both_done (Ok u) q = Appends-trans a b c x y p q

  pub both_begun : Begins b c y → Begins a c (x ++ y)
  both_begun q = subst (λ (t : List ℕ). Begins a c (x ++ t)) (append-nil y) (begins_after a b c x y [] p q)
