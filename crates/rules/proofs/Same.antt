-- For the tests: two lists, or two that may be missing, are the same.
use Rattle.std.proofs.Common.{Bool, true, false, ◌&&◌, List, [], ◌∷◌, Option, None, Some}

module _ {A : Type 0} where
  -- two lists are the same, element by element
  abbrev pub same-list : (A → A → Bool) → List A → List A → Bool
  same-list p [] [] = true
  same-list p [] (y ∷ ys) = false
  same-list p (x ∷ xs) [] = false
  same-list p (x ∷ xs) (y ∷ ys) = p x y && same-list p xs ys

  abbrev pub same-option : (A → A → Bool) → Option A → Option A → Bool
  same-option p None None = true
  same-option p None (Some y) = false
  same-option p (Some x) None = false
  same-option p (Some x) (Some y) = p x y
