-- Sections as words, the other way than a file is read, over any shape.
use Rattle.std.specs.Prelude.{ℕ, ◌≡◌, Bool, true, false, ◌&&◌, List, [], ◌∷◌, length, eqb, Some}
use Rattle.rules.specs.Lists.{join, every}
use Rattle.rules.specs.Recording.{good-count, sections}
use Rattle.rules.specs.Conversions.{written}

-- the words of records, one after the other
abbrev pub joined : List (List ℕ) → List ℕ
joined rs = join (λ (r : List ℕ). r) rs

-- k words
abbrev pub of-words : ℕ → List ℕ → Bool
of-words k r = eqb (length r) k

-- as many sections as the shape has, their counts good, their records of its sizes
unfoldable pub shaped : List (ℕ × Bool) → List (List (List ℕ)) → Bool
shaped [] [] = true
shaped [] (x ∷ xs) = false
shaped (s ∷ ss) [] = false
shaped (s ∷ ss) (x ∷ xs) = good-count s.1 (length x) && every (of-words s.0) x && shaped ss xs

-- over any shape: the words that sections are written as are parsed as these sections
abbrev pub WrittenParsed : Type 0
WrittenParsed = (ss : List (ℕ × Bool)) (xs : List (List (List ℕ))) → shaped ss xs ≡ true → sections ss (written xs) ≡ Some xs

-- what is parsed has the shape, and is written as the words it was parsed of
pub record Parsed (ss : List (ℕ × Bool)) (ws : List ℕ) (xs : List (List (List ℕ))) : Type 0 where
  pub words : written xs ≡ ws
  pub shape : shaped ss xs ≡ true

abbrev pub ParsedWritten : Type 0
ParsedWritten = (ss : List (ℕ × Bool)) (ws : List ℕ) (xs : List (List (List ℕ))) → sections ss ws ≡ Some xs → Parsed ss ws xs
