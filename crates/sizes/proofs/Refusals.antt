-- Laws of refusals, for callers.
use Rattle.std.proofs.Common.{◌≡◌, refl, cond, eqb, ℕ, arith, Result, Ok, Err}
use Rattle.sizes.specs.declared.answers.Refusal.{Refusal}
use Rattle.sizes.specs.declared.answers.Refusal.TheVariants as refusal
use Rattle.sizes.specs.Refusals.{number_of}

-- no refusal is done
pub not_done : (r : Refusal) → number_of r ≡ 0 → ⊥
not_done refusal.BadArena h = omega arith
not_done refusal.BadViewport h = omega arith
not_done refusal.BadForm h = omega arith
not_done refusal.BadRecord h = omega arith
not_done refusal.BadOrder h = omega arith
not_done refusal.Deep h = omega arith
not_done refusal.NoLayer h = omega arith
not_done refusal.Ids h = omega arith
not_done refusal.FullAttrs h = omega arith
not_done refusal.FullRow h = omega arith
not_done refusal.FullDepth h = omega arith
not_done refusal.BadRun h = omega arith
not_done refusal.Open h = omega arith
not_done refusal.NoRoom h = omega arith
not_done refusal.HasPanels h = omega arith

-- the refusal of a number
abbrev pub refusal_of : ℕ → Refusal
refusal_of n = cond (eqb n 1) refusal.BadArena (cond (eqb n 2) refusal.BadViewport (cond (eqb n 3) refusal.BadForm (cond (eqb n 4) refusal.BadRecord (cond (eqb n 5) refusal.BadOrder (cond (eqb n 6) refusal.Deep (cond (eqb n 7) refusal.NoLayer (cond (eqb n 8) refusal.Ids (cond (eqb n 9) refusal.FullAttrs (cond (eqb n 10) refusal.FullRow (cond (eqb n 11) refusal.FullDepth (cond (eqb n 12) refusal.BadRun (cond (eqb n 13) refusal.Open (cond (eqb n 14) refusal.NoRoom refusal.HasPanels)))))))))))))

-- the result that a number and a value stand for
abbrev pub result_of : {T : Type 0} → ℕ → T → Result T Refusal
result_of n x = cond (eqb n 0) (Ok x) (Err (refusal_of n))

pub refusal_there : {T : Type 0} (x : T) (r : Refusal) → result_of (number_of r) x ≡ Err r
refusal_there x refusal.BadArena = refl
refusal_there x refusal.BadViewport = refl
refusal_there x refusal.BadForm = refl
refusal_there x refusal.BadRecord = refl
refusal_there x refusal.BadOrder = refl
refusal_there x refusal.Deep = refl
refusal_there x refusal.NoLayer = refl
refusal_there x refusal.Ids = refl
refusal_there x refusal.FullAttrs = refl
refusal_there x refusal.FullRow = refl
refusal_there x refusal.FullDepth = refl
refusal_there x refusal.BadRun = refl
refusal_there x refusal.Open = refl
refusal_there x refusal.NoRoom = refl
refusal_there x refusal.HasPanels = refl
