-- The open layers as one row sees them: those that it is touched for are the outermost, and as many as it has buffers.
use Rattle.std.proofs.Common.{ℕ, suc, ◌≤◌, arith, ◌≡◌, refl, sym, ◌∙◌, ap, Bool, true, false, List, [], ◌∷◌, map, length, eqb, eq-eqb, ne_eqb}
use Rattle.rules.specs.Plans.{Layer}
use Rattle.rules.specs.Plain.{OpenLayer, touch-all}
use Rattle.rules.proofs.All.{never}

pub data Shape : List OpenLayer → ℕ → Type 0 where
  none_open : Shape [] 0
  for-all : {l : OpenLayer} {ls : List OpenLayer} → l.touched ≡ true → Shape ls (length ls) → Shape (l ∷ ls) (suc (length ls))
  not_yet : {l : OpenLayer} {ls : List OpenLayer} {m : ℕ} → l.touched ≡ false → Shape ls m → Shape (l ∷ ls) m

pub shape-most : {ls : List OpenLayer} {m : ℕ} → Shape ls m → m ≤ length ls
shape-most none_open = omega arith
shape-most (for-all e s) = omega arith
shape-most (not_yet e s) = let h = shape-most s in omega arith

pub touched-length : (b : Bool) (ls : List OpenLayer) → length (touch-all b ls) ≡ length ls
touched-length false ls = refl
touched-length true [] = refl
touched-length true (l ∷ ls) = ap suc (touched-length true ls)

pub touched-layers : (b : Bool) (ls : List OpenLayer) → map (λ (l : OpenLayer). l.layer) (touch-all b ls) ≡ map (λ (l : OpenLayer). l.layer) ls
touched-layers false ls = refl
touched-layers true [] = refl
touched-layers true (l ∷ ls) = ap (λ (ks : List Layer). l.layer ∷ ks) (touched-layers true ls)

-- a row that gets something has a buffer for every open layer
pub shape-touch : (ls : List OpenLayer) → Shape (touch-all true ls) (length ls)
shape-touch [] = none_open
shape-touch (l ∷ ls) =
    let rest : Shape (touch-all true ls) (length (touch-all true ls)) = rw (touched-length true ls) (shape-touch ls) in
    rw (touched-length true ls) at (for-all {l = record { layer = l.layer; touched = true }} {ls = touch-all true ls} refl rest)

-- whether it is touched for the innermost layer is seen by its buffers; then it loses one, or none
pub shape-inner : {l : OpenLayer} {ls : List OpenLayer} {m : ℕ} → Shape (l ∷ ls) m → l.touched ≡ eqb m (suc (length ls))
shape-inner {ls = ls} (for-all e s) = e ∙ sym (eq-eqb (suc (length ls)) (suc (length ls)) refl)
shape-inner {ls = ls} {m = m} (not_yet e s) = let h = shape-most s in e ∙ sym (ne_eqb m (suc (length ls)) (λ q. omega arith))

pub shape-closed : {l : OpenLayer} {ls : List OpenLayer} {m : ℕ} → Shape (l ∷ ls) m → l.touched ≡ true → (m ≡ suc (length ls)) × Shape ls (length ls)
shape-closed (for-all e s) y = (refl, s)
shape-closed (not_yet e s) y = never (sym y ∙ e)

pub shape-kept : {l : OpenLayer} {ls : List OpenLayer} {m : ℕ} → Shape (l ∷ ls) m → l.touched ≡ false → Shape ls m
shape-kept (for-all e s) n = never (sym e ∙ n)
shape-kept (not_yet e s) n = s
