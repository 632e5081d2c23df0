-- The calls are the conversions, where there is room.
use Rattle.std.proofs.Common.{ℕ, arith, ◌≡◌, refl, sym, ap, ◌∙◌, Bool, true, false, cond, List, [], length, ltb}
use Rattle.sizes.specs.declared.edition.Edition.{Edition}
use Rattle.sizes.specs.declared.edition.Edition.TheVariants.{One, Two}
use Rattle.rules.specs.Answers.{Answer, answer, Done, NoRoom}
use Rattle.rules.specs.Setups.{Mode}
use Rattle.rules.specs.Recording.{File, in-edition}
use Rattle.rules.specs.Conversions.{conversion, convert-call}
use Rattle.rect.specs.Rects.{mode_of}
use Rattle.convert.proofs.Theorems.{by-number, there-and-back}
use Rattle.theorem_editions.specs.Conversions.{TwoAndBack, OneAndBack}

by-room : (t : Bool) (a : Answer (List ℕ)) → (cond t (answer NoRoom []) a).number ≡ Done → cond t (answer NoRoom []) a ≡ a
by-room true a h = absurd (omega (arith, h))
by-room false a h = refl

-- a call that is done
module _ (m : Mode) (e : Edition) (n : ℕ) (f : File) (h : (convert-call m e n f).number ≡ Done) where
  same : convert-call m e n f ≡ conversion m e f
  unfolding convert-call
  same = by-room (ltb n (length (conversion m e f).value)) (conversion m e f) h

  done : (conversion m e f).number ≡ Done
  done = ap (λ (a : Answer (List ℕ)). a.number) (sym same) ∙ h

  becomes : conversion m e f ≡ answer Done (convert-call m e n f).value
  becomes = by-number m e f done ∙ ap (λ (a : Answer (List ℕ)). answer Done a.value) (sym same)

-- one call after the other
back : (d e : Edition) (m n : Mode) (k j : ℕ) (ws : List ℕ) → (convert-call m e k (in-edition d ws)).number ≡ Done
    → let vs = (convert-call m e k (in-edition d ws)).value in (convert-call n d j (in-edition e vs)).number ≡ Done → (convert-call n d j (in-edition e vs)).value ≡ ws
back d e m n k j ws h g =
    let vs = (convert-call m e k (in-edition d ws)).value in
    let b = there-and-back d e m n ws vs (becomes m e k (in-edition d ws) h) (done n d j (in-edition e vs) g) in
    ap (λ (a : Answer (List ℕ)). a.value) (same n d j (in-edition e vs) g ∙ b)

pub two-and-back : TwoAndBack
two-and-back m n ws out there h g = back One Two (mode_of m) (mode_of n) (length out) (length there) ws h g

pub one-and-back : OneAndBack
one-and-back m n ws out there h g = back Two One (mode_of m) (mode_of n) (length out) (length there) ws h g
