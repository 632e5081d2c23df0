-- Depth fills written from the last to the first.
use Rattle.std.proofs.Common.{◌≡◌, refl, sym, ap, ℕ, zero, suc, ◌-◌, ◌≤◌, ◌<◌, arith, Bool, true, false, List, ◌∷◌, Option, None, Some, replicate, option_map, option_and_then}
use Rattle.rules.specs.Attributes.{Attrs}
use Rattle.rules.specs.Commands.{DepthFill}
use Rattle.rules.specs.Compacted.{newest-ids}
use Rattle.cmd.specs.Reading.{only_if}
use Rattle.compact.specs.Reading.{all-from, one-written}
use Rattle.compact.proofs.Froms.{spoilt}

module _ (a : Attrs) (n : ℕ) (f : ℕ → Option DepthFill) where
  -- the ids that the fills from place k on leave
  abbrev pub ids-from : ℕ → ℕ → Option (List ℕ)
  ids-from k j = option_map (newest-ids a n) (all-from f k j)

  -- none is written yet
  pub newest-none : (k : ℕ) → ids-from k (k - k) ≡ Some (replicate n 0)
  unfolding all-from
  newest-none k = let z : k - k ≡ 0 = omega arith in rw z refl

  -- a fill before others
  before : (bs : List ℕ) (o : Option DepthFill) (r : Option (List DepthFill)) → option_map (newest-ids a n) r ≡ Some bs
      → option_map (newest-ids a n) (option_and_then (λ x. option_map (λ xs. x ∷ xs) r) o) ≡ option_map (one-written a bs) o
  before bs None r e = refl
  before bs (Some x) None e = let z : ◌≡◌ {A = ℕ} 0 1 = cc in absurd (omega arith)
  before bs (Some x) (Some fs) e = let z : newest-ids a n fs ≡ bs = cc in rw z refl

  -- one more, the one before place k
  pub newest-step : (count k : ℕ) (bs : List ℕ) → 0 < k → k ≤ count → ids-from k (count - k) ≡ Some bs
      → ids-from (k - 1) (count - (k - 1)) ≡ option_map (one-written a bs) (f (k - 1))
  unfolding all-from
  newest-step count zero bs p h e = absurd (omega arith)
  newest-step count (suc k) bs p h e =
      let y : suc k - 1 ≡ k = omega arith in
      let z : count - k ≡ suc (count - suc k) = omega arith in
      rw (y, z) (before bs (f k) (all-from f (suc k) (count - suc k)) e)

  -- a forged one spoils all
  lost : (r : Option (List DepthFill)) → option_map (newest-ids a n) r ≡ None → r ≡ None
  lost None e = refl
  lost (Some fs) e = let z : ◌≡◌ {A = ℕ} 0 1 = cc in absurd (omega arith)

  pub newest-spoilt : (count k : ℕ) → k ≤ count → ids-from k (count - k) ≡ None → ids-from 0 count ≡ None
  newest-spoilt count k h e = ap (option_map (newest-ids a n)) (spoilt f count k h (lost _ e))

-- what was done, and what was not
pub was-done : {A : Type 0} {t : Bool} {x : A} {o : Option A} → t ≡ true → only_if t x ≡ o → o ≡ Some x
was-done h e = rw h at (sym e)

pub not-done : {A : Type 0} {t : Bool} {o : Option A} (x : A) → t ≡ false → only_if t x ≡ o → o ≡ None
not-done x h e = rw h at (sym e)
