-- A recording file as one of the other edition, on a host's words: a list for its words, and one word for how many of them are the file's.
use Rattle.std.specs.Prelude.{ℕ, List, [], ◌∷◌, ◌++◌, length, drop, cond, leb, Result, Ok, Err}
use Rattle.sizes.specs.declared.answers.Refusal.{Refusal}
use Rattle.sizes.specs.declared.answers.Refusal.TheVariants.{BadRecord}
use Rattle.sizes.specs.declared.edition.Edition.{Edition}
use Rattle.sizes.specs.declared.edition.Edition.TheVariants.{One, Two}
use Rattle.sizes.specs.Refusals.{answer_number}
use Rattle.rules.specs.Answers.{Answer, answer}
use Rattle.rules.specs.Setups.{Mode}
use Rattle.rules.specs.Recording.{File, in-edition}
use Rattle.rules.specs.Conversions.{convert-call}
use Rattle.rect.specs.declared.Mode.{Mode as Given}
use Rattle.rect.specs.Rects.{mode_of}
use Rattle.convert.specs.Placed.{count_of}
use Rattle.host.specs.Asked.{mode-at, granted}
use Rattle.host.specs.Border.{unasked_number}
use Rattle.host.specs.Results.{result}

-- 4 where the mode's word is above 1
unfoldable pub asked_mode : ℕ → Result Mode Refusal
asked_mode n = cond (leb n 1) (Ok (mode-at n)) (Err BadRecord)

-- what the code reads
abbrev pub mode-for : Result Given Refusal → Result Mode Refusal
mode-for (Ok m) = Ok (mode_of m)
mode-for (Err r) = Err r

-- how many words or entries there are, where the call is done; else what stood there
abbrev pub count-left : List ℕ → Result ℕ Refusal → Answer (List ℕ)
count-left n r = let k = answer_number r in answer k (result k (count_of r ∷ []) n)

-- done: the file's words first in the list, those after them as they were; refused, everything as it was
abbrev pub converted-left : List ℕ → List ℕ → Answer (List ℕ) → Answer (List ℕ × List ℕ)
converted-left out n a =
    answer a.number (a.value ++ drop (length a.value) out, result a.number (length a.value ∷ []) n)

-- a file as one of edition e, in a mode
unfoldable pub conversion_in : File → Edition → Mode → List ℕ → List ℕ → Answer (List ℕ × List ℕ)
conversion_in f e m out n = converted-left out n (convert-call m e (length out) f)

-- .. as a host's word asks: 3 for the file's form comes before the mode's 4
unfoldable pub conversion_call : File → Edition → ℕ → List ℕ → List ℕ → Answer (List ℕ × List ℕ)
conversion_call f e mode out n = granted (asked_mode mode) (unasked_number f) (out, n) (λ m. conversion_in f e m out n)

-- words of edition one to edition two, and back
abbrev pub two_call : List ℕ → ℕ → List ℕ → List ℕ → Answer (List ℕ × List ℕ)
two_call ws = conversion_call (in-edition One ws) Two

abbrev pub one_call : List ℕ → ℕ → List ℕ → List ℕ → Answer (List ℕ × List ℕ)
one_call ws = conversion_call (in-edition Two ws) One
