-- A step's answer, and where the painting of its row then stands.
use Rattle.std.specs.Prelude.{Result, Ok, Err, ℕ, Bool, false, List, get_or}
use Rattle.sizes.specs.declared.answers.Refusal.{Refusal}
use Rattle.sizes.specs.Refusals.{number_of}
use Rattle.rules.specs.Answers.{Done}
use Rattle.paint.specs.declared.pieces.Stepped.{Stepped}

abbrev pub word : List ℕ → ℕ → ℕ
word ws i = get_or ws i 0

-- the answer's number, whether no step was left, how many pieces stand in the list
pub record Painted : Type 0 where
  pub number : ℕ
  pub finished : Bool
  pub pieces : ℕ

abbrev pub refused : ℕ → Painted
refused n = record { number = n; finished = false; pieces = 0 }

abbrev pub listed : ℕ → Painted
listed n = record { number = Done; finished = false; pieces = n }

abbrev pub painted_of : Result Stepped Refusal → Painted
painted_of (Ok s) = record { number = Done; finished = s.finished; pieces = s.pieces }
painted_of (Err r) = refused (number_of r)

-- an answer with the painting words alone
pub record Advanced : Type 0 where
  pub answer : Painted
  pub painting : List ℕ

abbrev pub advanced : Painted → List ℕ → Advanced
advanced r p = record { answer = r; painting = p }
