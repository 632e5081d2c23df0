-- A row after a step is a function of that row before and of the acts that the step puts on it, and of no other row.
use Rattle.std.proofs.Common.{ℕ, zero, suc, ◌<◌, ◌≡◌, refl, ap, ◌∙◌, Bool, true, false, List, [], ◌∷◌, not-suc-le-zero, le_of_suc-le-suc, length, get_or, eqb, eqb-true}
use mathlib.Core.Logic.{◌≢◌}
use borrow.Author.Tests.{eqb-false}
use Rattle.rules.specs.Lists.{change, keep}
use Rattle.rules.specs.Rows.{RowOps}
use Rattle.rules.specs.Plans.{Act, Put}
use Rattle.rules.specs.Steps.{do-act, do-puts}

module _ {A : Type 0} (f : A → A) (d : A) where
  change-length : (i : ℕ) (xs : List A) → length (change f i xs) ≡ length xs
  change-length i [] = refl
  change-length zero (x ∷ xs) = refl
  change-length (suc i) (x ∷ xs) = ap suc (change-length i xs)

  change-here : (i : ℕ) (xs : List A) → i < length xs → get_or (change f i xs) i d ≡ f (get_or xs i d)
  change-here i [] h = absurd (not-suc-le-zero h)
  change-here zero (x ∷ xs) h = refl
  change-here (suc i) (x ∷ xs) h = change-here i xs (le_of_suc-le-suc h)

  change-there : (i j : ℕ) (xs : List A) → j ≢ i → get_or (change f j xs) i d ≡ get_or xs i d
  change-there i j [] h = refl
  change-there zero zero (x ∷ xs) h = absurd (h refl)
  change-there (suc i) zero (x ∷ xs) h = refl
  change-there zero (suc j) (x ∷ xs) h = refl
  change-there (suc i) (suc j) (x ∷ xs) h = change-there i j xs (λ e. h (ap suc e))

-- what is put on row i, in order
abbrev pub acts-at : ℕ → List Put → List Act
acts-at i [] = []
acts-at i (p ∷ ps) = keep (eqb p.row i) p.act (acts-at i ps)

module _ (R : Type 0) (ops : RowOps R) (w : ℕ) where
  unfoldable pub do-acts : ℕ → List Act → R → R
  do-acts n [] r = r
  do-acts n (x ∷ xs) r = do-acts n xs (do-act R ops w n x r)

  pub row-by-row : (n i : ℕ) (d : R) (ps : List Put) (rs : List R) → i < length rs → get_or (do-puts R ops w n ps rs) i d ≡ do-acts n (acts-at i ps) (get_or rs i d)
  unfolding do-puts do-acts
  row-by-row n i d [] rs h = refl
  row-by-row n i d (p ∷ ps) rs h =
      row-by-row n i d ps (change f p.row rs) (rw (change-length f d p.row rs) h) ∙ go (eqb p.row i) refl
    where
      f : R → R
      f = do-act R ops w n p.act

      go : (b : Bool) → eqb p.row i ≡ b → do-acts n (acts-at i ps) (get_or (change f p.row rs) i d) ≡ do-acts n (keep b p.act (acts-at i ps)) (get_or rs i d)
      go true e = let q : p.row ≡ i = eqb-true _ _ e in rw (q, change-here f d i rs h)
      go false e = rw (change-there f d i p.row rs (eqb-false _ _ e))
