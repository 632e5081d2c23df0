-- A call's results in lent words of a fixed length; a refusal leaves them as they were.
use Rattle.std.specs.Prelude.{ℕ, Bool, cond, List, [], ◌∷◌, ◌++◌, drop, eqb}
use Rattle.rules.specs.Answers.{Answer, answer}
use Rattle.rules.specs.Split.{Part, regular, buckets}
use Rattle.depth.specs.Listing.{RunsOut}
use Rattle.paint.specs.Answers.{Painted}
use Rattle.host.specs.State.{bit}

-- a done call's result words, else those that were there
abbrev pub result : ℕ → List ℕ → List ℕ → List ℕ
result number new old = cond (eqb number 0) new old

-- a painting step's result: whether finished, how many pieces
abbrev pub step-result : List ℕ → Painted → Answer (List ℕ)
step-result old p = answer p.number (result p.number (bit p.finished ∷ p.pieces ∷ []) old)

-- how many runs are listed
abbrev pub count_left : List ℕ → RunsOut → Answer (List ℕ)
count_left n o = answer o.number (result o.number (o.count ∷ []) n)

-- 1 for yes, 0 for no
abbrev pub skip-left : List ℕ → Answer Bool → Answer (List ℕ)
skip-left old a = answer a.number (result a.number (bit a.value ∷ []) old)

-- A part is three words: 1 for a regular piece or 2 for a depth fill, first, end; zeros for none.
abbrev pub slot : List Part → List ℕ
slot [] = 0 ∷ 0 ∷ 0 ∷ []
slot (regular s ∷ ps) = 1 ∷ s.first ∷ s.end ∷ []
slot (buckets s ∷ ps) = 2 ∷ s.first ∷ s.end ∷ []

-- the first three parts
unfoldable pub three_words : List Part → List ℕ
three_words ps = slot ps ++ slot (drop 1 ps) ++ slot (drop 2 ps)

abbrev pub split-left : List ℕ → Answer (List Part) → Answer (List ℕ)
split-left parts a = answer a.number (result a.number (three_words a.value) parts)
