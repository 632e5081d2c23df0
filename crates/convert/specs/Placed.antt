-- What a conversion gives: its number, how many words it put, and all of the list that it was lent.
use Rattle.std.specs.Prelude.{ℕ, List, ◌++◌, length, drop, Result, Ok, Err}
use Rattle.sizes.specs.declared.answers.Refusal.{Refusal}
use Rattle.sizes.specs.declared.edition.Edition.TheVariants.{One, Two}
use Rattle.sizes.specs.Refusals.{answer_number}
use Rattle.rules.specs.Answers.{Answer}
use Rattle.rules.specs.Recording.{in-edition}
use Rattle.rules.specs.Conversions.{convert-call}
use Rattle.rect.specs.declared.Mode.{Mode}
use Rattle.rect.specs.Rects.{mode_of}

pub record Placed : Type 0 where
  pub number : ℕ
  pub count : ℕ
  pub words : List ℕ

-- how many words a result says; refused, none
abbrev pub count_of : Result ℕ Refusal → ℕ
count_of (Ok n) = n
count_of (Err _) = 0

-- .. of the code's result and the list afterwards
abbrev pub placed : Result ℕ Refusal → List ℕ → Placed
placed r ws = record { number = answer_number r; count = count_of r; words = ws }

-- .. of the rules' answer: its words stand first, what was after them stays; a refusal has none
abbrev pub put_first : Answer (List ℕ) → List ℕ → Placed
put_first a ws = record { number = a.number; count = length a.value; words = a.value ++ drop (length a.value) ws }

-- the rules' answer for words that are read in a mode, into a list
abbrev pub as_two : Mode → List ℕ → List ℕ → Answer (List ℕ)
as_two m ws out = convert-call (mode_of m) Two (length out) (in-edition One ws)

abbrev pub as_one : Mode → List ℕ → List ℕ → Answer (List ℕ)
as_one m ws out = convert-call (mode_of m) One (length out) (in-edition Two ws)
