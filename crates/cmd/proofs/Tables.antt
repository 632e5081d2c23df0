-- Words that are stored one after the other in a table, and what stands there afterwards.
use Rattle.std.proofs.Common.{◌≡◌, refl, sym, ap, ◌∙◌, List, [], ◌∷◌, ◌++◌, ℕ, suc, ◌≤◌, ◌<◌, ◌+◌, ◌-◌, arith, length, take, drop, set, get_or, length-append, length-drop, length-take-le, get_or-append-add, get_or-take, get_or-drop}
use lib.ListN.{get_or-append}
use lib.Seq.{sets, sets-eq}
use Rattle.cmd.specs.Attrs.{words-at}

next : (at k : ℕ) → suc (at + k) ≡ at + (k + 1)
next at k = omega arith

plus_one : (at : ℕ) → at + 1 ≡ suc at
plus_one at = omega arith

module _ {A : Type 0} where
  -- ws stored at the places at + k, at + (k + 1), ..
  abbrev pub stores : List A → ℕ → ℕ → List A → List A
  stores xs at k [] = xs
  stores xs at k (w ∷ ws) = stores (set xs (at + k) w) at (k + 1) ws

  stores-sets : (xs : List A) (at k : ℕ) (ws : List A) → stores xs at k ws ≡ sets xs (at + k) ws
  stores-sets xs at k [] = refl
  stores-sets xs at k (w ∷ ws) = rw (next at k) (stores-sets (set xs (at + k) w) at (k + 1) ws)

  -- the first word at the place itself, the others after it
  pub stored : (xs : List A) (at : ℕ) (w : A) (ws : List A) → at + suc (length ws) ≤ length xs
      → stores (set xs at w) at 1 ws ≡ words-at xs at (w ∷ ws)
  stored xs at w ws h = stores-sets (set xs at w) at 1 ws ∙ rw (plus_one at) (sets-eq (w ∷ ws) xs at h)

  module _ (xs : List A) (at : ℕ) (ws : List A) (fits : at + length ws ≤ length xs) where
    head-length : length (take at xs) ≡ at
    head-length = length-take-le at xs (omega arith)

    front_length : length (take at xs ++ ws) ≡ at + length ws
    front_length = rw (length-append, head-length)

    pub length_at : length (words-at xs at ws) ≡ length xs
    length_at = rw (length-append, front_length, length-drop) (omega arith)

    module _ (d : A) (k : ℕ) where
      pub at-inside : k < length ws → get_or (words-at xs at ws) (at + k) d ≡ get_or ws k d
      at-inside h =
          get_or-append (take at xs ++ ws) (drop (at + length ws) xs) d (at + k) (rw front_length (omega arith))
          ∙ ap (λ (n : ℕ). get_or (take at xs ++ ws) (n + k) d) (sym head-length)
          ∙ get_or-append-add (take at xs) ws k d

      pub at-below : k < at → get_or (words-at xs at ws) k d ≡ get_or xs k d
      at-below h =
          get_or-append (take at xs ++ ws) (drop (at + length ws) xs) d k (rw front_length (omega arith))
          ∙ get_or-append (take at xs) ws d k (rw head-length h)
          ∙ get_or-take at xs k d h

      pub at_after : at + length ws ≤ k → get_or (words-at xs at ws) k d ≡ get_or xs k d
      at_after h =
          ap (λ (n : ℕ). get_or (words-at xs at ws) n d) (rest (length (take at xs ++ ws)) front_length)
          ∙ get_or-append-add (take at xs ++ ws) (drop (at + length ws) xs) (k - (at + length ws)) d
          ∙ get_or-drop (at + length ws) xs (k - (at + length ws)) d
          ∙ ap (λ (n : ℕ). get_or xs n d) (omega arith)
        where
          rest : (n : ℕ) → n ≡ at + length ws → k ≡ n + (k - (at + length ws))
          rest n e = omega arith
