-- What a change of one row, and a list of puts, do to a list of rows. Assumes nothing.
use Rattle.std.proofs.Common.{◌≡◌, refl, ap, ◌∙◌, Bool, false, List, [], ◌∷◌, ◌++◌, ℕ, zero, suc, ◌<◌, arith, eqb, length, get_or, set}
use borrow.Author.Tests.{eqb-false}
use Rattle.rules.specs.Lists.{some_of, change}
use Rattle.rules.specs.Rows.{RowOps}
use Rattle.rules.specs.Plans.{Put}
use Rattle.rules.specs.Steps.{do-act, do-puts}
use Rattle.rules.proofs.All.{neither}

module _ {A : Type 0} where
  pub change-length : (f : A → A) (r : ℕ) (xs : List A) → length (change f r xs) ≡ length xs
  change-length f zero [] = refl
  change-length f (suc r) [] = refl
  change-length f zero (x ∷ xs) = refl
  change-length f (suc r) (x ∷ xs) = ap suc (change-length f r xs)

  -- a change is a replacement
  pub change-set : (f : A → A) (r : ℕ) (xs : List A) (d : A) → r < length xs → change f r xs ≡ set xs r (f (get_or xs r d))
  change-set f zero [] d h = refl
  change-set f (suc r) [] d h = refl
  change-set f zero (x ∷ xs) d h = refl
  change-set f (suc r) (x ∷ xs) d h = ap (λ t. x ∷ t) (change-set f r xs d (omega arith))

  pub change-same : (f : A → A) (r : ℕ) (xs : List A) (d : A) → r < length xs → get_or (change f r xs) r d ≡ f (get_or xs r d)
  change-same f zero [] d h = absurd (omega arith)
  change-same f (suc r) [] d h = absurd (omega arith)
  change-same f zero (x ∷ xs) d h = refl
  change-same f (suc r) (x ∷ xs) d h = change-same f r xs d (omega arith)

  pub change-else : (f : A → A) (r x : ℕ) (xs : List A) (d : A) → (r ≡ x → ⊥) → get_or (change f r xs) x d ≡ get_or xs x d
  change-else f zero x [] d h = refl
  change-else f (suc r) x [] d h = refl
  change-else f zero zero (y ∷ ys) d h = absurd (h refl)
  change-else f zero (suc x) (y ∷ ys) d h = refl
  change-else f (suc r) zero (y ∷ ys) d h = refl
  change-else f (suc r) (suc x) (y ∷ ys) d h = change-else f r x ys d (λ e. h (ap suc e))

  -- what holds of an element and of its change holds after a change anywhere
  pub change-at : (Q : A → Type 0) (f : A → A) (r x : ℕ) (xs : List A) (d : A) → Q (get_or xs x d) → Q (f (get_or xs x d)) → Q (get_or (change f r xs) x d)
  change-at Q f zero x [] d p q = p
  change-at Q f (suc r) x [] d p q = p
  change-at Q f zero zero (y ∷ ys) d p q = q
  change-at Q f zero (suc x) (y ∷ ys) d p q = p
  change-at Q f (suc r) zero (y ∷ ys) d p q = p
  change-at Q f (suc r) (suc x) (y ∷ ys) d p q = change-at Q f r x ys d p q

-- some put is on row x
unfoldable pub puts-on : ℕ → List Put → Bool
puts-on x ps = some_of (λ (p : Put). eqb p.row x) ps

module _ (R : Type 0) (ops : RowOps R) (w n : ℕ) where
  pub puts-length : (ps : List Put) (rs : List R) → length (do-puts R ops w n ps rs) ≡ length rs
  unfolding do-puts
  puts-length [] rs = refl
  puts-length (p ∷ ps) rs = puts-length ps (change (do-act R ops w n p.act) p.row rs) ∙ change-length (do-act R ops w n p.act) p.row rs

  pub puts-append : (ps qs : List Put) (rs : List R) → do-puts R ops w n (ps ++ qs) rs ≡ do-puts R ops w n qs (do-puts R ops w n ps rs)
  unfolding do-puts
  puts-append [] qs rs = refl
  puts-append (p ∷ ps) qs rs = puts-append ps qs (change (do-act R ops w n p.act) p.row rs)

  -- a row that nothing is put on stays as it was
  pub untouched : (x : ℕ) (d : R) (ps : List Put) (rs : List R) → puts-on x ps ≡ false → get_or (do-puts R ops w n ps rs) x d ≡ get_or rs x d
  unfolding do-puts puts-on
  untouched x d [] rs h = refl
  untouched x d (p ∷ ps) rs h =
      let e = neither (eqb p.row x) (puts-on x ps) h in
      untouched x d ps (change (do-act R ops w n p.act) p.row rs) e.1 ∙ change-else (do-act R ops w n p.act) p.row x rs d (eqb-false p.row x e.0)
