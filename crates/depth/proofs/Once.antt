-- Each contract's equation allows one result. Assumes nothing.
use Rattle.std.proofs.Common.{◌≡◌, refl, sym, ap, ◌∙◌, Bool, false, Result, Ok, Err}
use Rattle.depth.specs.Answers.{answered, skip_of}
use Rattle.sizes.specs.declared.answers.Refusal.{Refusal}
use Rattle.sizes.proofs.Refusals.{result_of, refusal_there}

-- what has a way back tells its arguments apart
once : {A B : Type 0} (f : A → B) (g : B → A) → ((x : A) → g (f x) ≡ x) → (x y : A) → f x ≡ f y → x ≡ y
once f g back x y e = sym (back x) ∙ ap g e ∙ back y

-- a result is told apart by its answer
answered-there : {A B : Type 0} (f : A → B) (g : B → A) (d : B) → ((x : A) → g (f x) ≡ x) → (r : Result A Refusal)
    → result_of (answered f d r).number (g (answered f d r).value) ≡ r
answered-there f g d back (Ok x) = ap Ok (back x)
answered-there f g d back (Err r) = refusal_there (g d) r

pub answered_once : {A B : Type 0} (f : A → B) (g : B → A) (d : B) → ((x : A) → g (f x) ≡ x) → (r q : Result A Refusal)
    → answered f d r ≡ answered f d q → r ≡ q
answered_once f g d back r q e = once (answered f d) (λ a. result_of a.number (g a.value)) (answered-there f g d back) r q e

pub skip-once : (r q : Result Bool Refusal) → skip_of r ≡ skip_of q → r ≡ q
skip-once r q e = answered_once (λ (b : Bool). b) (λ (b : Bool). b) false (λ b. refl) r q e
