-- Fills in order are the rules' steps in order; and what they leave is what the done ones leave.
use Rattle.std.proofs.Common.{◌≡◌, refl, ap, Bool, true, false, cond, List, [], ◌∷◌, ℕ, suc, ◌+◌, arith, eqb}
use Rattle.rules.specs.Answers.{Answer, answer, settle}
use Rattle.rules.specs.Walk.{◌then◌, each}
use Rattle.inputs.specs.declared.Draw.{Draw}
use lib.ListN.{take}
use Rattle.fill.specs.Fills.{FillLent, filled, fill_number, fill_done}
use Rattle.fill.specs.Lists.{FillsOut, fills_out, fills_in_order}

module _ (ps ss : List ℕ) where
  abbrev filling : Draw → FillLent → Answer FillLent
  filling d l = filled l ps ss d

  pub in-order-each : (ds : List Draw) (l : FillLent)
      → answer (fills_in_order ps ss ds l).number (fills_in_order ps ss ds l).value ≡ each filling ds l
  unfolding fills_in_order each ◌then◌
  in-order-each [] l = refl
  in-order-each (d ∷ ds) l = go _ refl (in-order-each ds (filled l ps ss d).value)
    where
      go : (t : Bool) → eqb (filled l ps ss d).number 0 ≡ t
          → answer (fills_in_order ps ss ds (filled l ps ss d).value).number (fills_in_order ps ss ds (filled l ps ss d).value).value ≡ each filling ds (filled l ps ss d).value
          → answer (fills_in_order ps ss (d ∷ ds) l).number (fills_in_order ps ss (d ∷ ds) l).value ≡ each filling (d ∷ ds) l
      go true h m = rw h m
      go false h m = rw h refl

  -- a refused fill alters nothing
  kept : (n : ℕ) (l m : FillLent) → eqb (settle n l m).number 0 ≡ false → (settle n l m).value ≡ l
  kept n l m = go (eqb n 0) refl
    where
      go : (t : Bool) → eqb n 0 ≡ t → eqb (settle n l m).number 0 ≡ false → (settle n l m).value ≡ l
      go true h k = let z : ◌≡◌ {A = ℕ} 0 1 = ap (λ (b : Bool). cond b 0 1) (rw h at k) in absurd (omega arith)
      go false h k = rw h refl

  pub done-ones : (ds : List Draw) (l : FillLent)
      → fills_in_order ps ss (take (fills_in_order ps ss ds l).done ds) l ≡ fills_out 0 (fills_in_order ps ss ds l).done (fills_in_order ps ss ds l).value
  unfolding fills_in_order
  done-ones [] l = refl
  done-ones (d ∷ ds) l = go _ refl (done-ones ds (filled l ps ss d).value)
    where
      rest : FillsOut
      rest = fills_in_order ps ss ds (filled l ps ss d).value

      go : (t : Bool) → eqb (filled l ps ss d).number 0 ≡ t
          → fills_in_order ps ss (take rest.done ds) (filled l ps ss d).value ≡ fills_out 0 rest.done rest.value
          → fills_in_order ps ss (take (fills_in_order ps ss (d ∷ ds) l).done (d ∷ ds)) l
          ≡ fills_out 0 (fills_in_order ps ss (d ∷ ds) l).done (fills_in_order ps ss (d ∷ ds) l).value
      go true h m = let z : 1 + rest.done ≡ suc rest.done = omega arith in rw (h, z, h, m) (ap (λ (n : ℕ). fills_out 0 n rest.value) z)
      go false h m = rw (h, kept (fill_number l ps ss d) l (fill_done l ps ss d) h) refl
