-- Every done push is a step of the rules: what it accepts are a layer's properties. The opacity is an f32, as every argument of the call is.
-- Assumes nothing.
use Rattle.std.proofs.Common.{arith, ◌≡◌, sym, ◌∙◌, Bool, true, ◌&&◌, cond, List, [], ◌∷◌, ◌++◌, ℕ, T, eqb, length}
use Rattle.std.proofs.lemmas.Bool.Decides.{nat_tests}
use lib.Ieee.{binary32, fits}
use Rattle.sizes.specs.Sizes.{open-layer-table, opacity-count}
use Rattle.rules.specs.Answers.{Done}
use Rattle.rules.specs.Plans.{Frame, Step, a-push}
use Rattle.screen.specs.Tables.{ScreenLent}
use Rattle.screen.specs.declared.layers.LayerProps.{LayerProps}
use Rattle.screen.specs.Layers.{good-given}
use Rattle.layers.specs.Push.{pushed, push-number, after}
use Rattle.layers.proofs.PushLaws.{tests, ready}
use Rattle.walk.specs.Reading.{props_in, props_said}
use Rattle.walk.proofs.Given.{good-props-said}
use Rattle.rules.proofs.laws.Answers.{settle-number}
use Rattle.walk.specs.Steps.{rows_words, push-part}
use Rattle.theorem_picture.specs.Calls.{push_at}
use Rattle.theorem_picture.specs.Reached.{ReachedBy, by-push}

-- a number 0 has passed the last of three tests
last-of : (a b c : Bool) (k : ℕ) → cond (a && b && c) k 4 ≡ 0 → c ≡ true
last-of a b c k e = grind (arith, nat_tests)

module _ (p : LayerProps) (l : ScreenLent) (e : (push_at p l).number ≡ Done) where
  number-done : push-number p (push-part l) ≡ Done
  unfolding push_at pushed
  number-done = sym (settle-number (push-number p (push-part l)) (push-part l) (after p (push-part l))) ∙ e

  accepted : good-given p ≡ true
  accepted =
      let w = rows_words l.tables in
      let y = ready p l.screen w l.tables.layers l.tables.opacities number-done in
      last-of (eqb (length l.tables.layers) open-layer-table) (eqb (length l.tables.opacities) opacity-count) (good-given p) _
      (sym (tests p l.screen w l.tables.layers l.tables.opacities y.zero) ∙ number-done)

  pub push-says : T (fits binary32 p.opacity) → p ≡ props_in (props_said p)
  push-says f = sym (good-props-said p f accepted).0

-- any done push extends the history by the step that its properties say
pub push-reached : {c : Bool} {f : Frame} {xs : List Step} {l : ScreenLent} (p : LayerProps) → T (fits binary32 p.opacity) → ReachedBy c f xs l → (push_at p l).number ≡ Done
    → ReachedBy c f (xs ++ (a-push (props_said p) ∷ [])) (push_at p l).value
push-reached {l = l} p z r e = by-push p (props_said p) (push-says p l e z) r e
