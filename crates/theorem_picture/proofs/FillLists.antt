-- A list of fills on reached words: its done fills, each a step. Assumes nothing.
use Rattle.std.proofs.Common.{ℕ, zero, suc, ◌+◌, ◌-◌, ◌*◌, arith, ◌≡◌, refl, Bool, true, false, List, [], ◌∷◌, ◌++◌, append-nil, append_assoc, eqb, eqb-true}
use Rattle.sizes.specs.declared.edition.Edition.TheVariants.{Two}
use Rattle.rules.specs.Answers.{Done}
use Rattle.rules.specs.Plans.{Frame, Step}
use Rattle.screen.specs.Tables.{ScreenLent}
use Rattle.fill.specs.Lists.{FillsOut, draws_in, good-draws, fills_in_order, fills_listed}
use Rattle.inputs.specs.declared.Draw.{Draw}
use Rattle.inputs.specs.Draws.{draw_at}
use Rattle.sizes.specs.Editions.{draw-size}
use Rattle.walk.specs.Steps.{fill-part, fill-into}
use Rattle.theorem_picture.specs.Calls.{fill-at, fill-said, fills-out, fills-left, fills-said}
use Rattle.theorem_picture.specs.Reached.{ReachedBy, by-fill}
use Rattle.theorem_picture.proofs.Calls.{fill-kept}

abbrev pub told : List ℕ → List ℕ → List ℕ → ℕ → ℕ → ScreenLent → FillsOut
told ps ss ws a k l = fills_in_order ps ss (draws_in Two ws a k) (fill-part l)

-- whatever a done fill carries on, a list of fills does
module _ (ps ss ws : List ℕ) (On : List Step → ScreenLent → Type 0)
    (more : (xs : List Step) (l : ScreenLent) (d : Draw) → On xs l → (fill-at ps ss d l).number ≡ Done → On (xs ++ (fill-said ps ss d ∷ [])) (fill-at ps ss d l).value) where
  -- k draws from number a on
  in-order : (k a : ℕ) (xs : List Step) (l : ScreenLent) → On xs l
      → On (xs ++ fills-said ps ss ws a (told ps ss ws a k l).done) (fill-into l.tables (told ps ss ws a k l).value)
  unfolding fills_in_order draws_in fill-at
  in-order zero a xs l r = rw (append-nil xs) r
  in-order (suc k) a xs l r = go (eqb (fill-at ps ss d l).number Done) refl (in-order k (a + 1))
    where
      d : Draw
      d = draw_at Two ws (draw-size Two * a)

      go : (t : Bool) → eqb (fill-at ps ss d l).number Done ≡ t
          → ((ys : List Step) (y : ScreenLent) → On ys y → On (ys ++ fills-said ps ss ws (a + 1) (told ps ss ws (a + 1) k y).done) (fill-into y.tables (told ps ss ws (a + 1) k y).value))
          → On (xs ++ fills-said ps ss ws a (told ps ss ws a (suc k) l).done) (fill-into l.tables (told ps ss ws a (suc k) l).value)
      go true e m =
          let y = (fill-at ps ss d l).value in
          let n = (told ps ss ws (a + 1) k y).done in
          let z : 1 + n ≡ suc n = omega arith in
          let h = m (xs ++ (fill-said ps ss d ∷ [])) y (more xs l d r (eqb-true _ _ e)) in
          rw (e, z, ← append_assoc xs (fill-said ps ss d ∷ []) (fills-said ps ss ws (a + 1) n)) h
      go false e m = rw (e, append-nil xs, fill-kept l ps ss d e) r

  pub carried : (a b : ℕ) (xs : List Step) (l : ScreenLent) → On xs l
      → On (xs ++ fills-said ps ss ws a (fills-out ps ss ws a b l).done) (fills-left ps ss ws a b l)
  unfolding fills_listed draws_in
  carried a b xs l r = go (good-draws ws a b) refl
    where
      go : (t : Bool) → good-draws ws a b ≡ t → On (xs ++ fills-said ps ss ws a (fills-out ps ss ws a b l).done) (fills-left ps ss ws a b l)
      go true e = rw e (in-order (b - a) a xs l r)
      go false e = rw (e, append-nil xs) r

pub fills-reached : (ps ss ws : List ℕ) (a b : ℕ) {c : Bool} {f : Frame} {xs : List Step} {l : ScreenLent} → ReachedBy c f xs l
    → ReachedBy c f (xs ++ fills-said ps ss ws a (fills-out ps ss ws a b l).done) (fills-left ps ss ws a b l)
fills-reached ps ss ws a b {c} {f} {xs} {l} r = carried ps ss ws (λ ys y. ReachedBy c f ys y) (λ ys y d s e. by-fill ps ss d s e) a b xs l r
