-- The border's number is the call's own, or that with a 4 for what is not 1, 2 or 3. Assumes nothing.
use Rattle.std.proofs.Common.{ℕ, ◌≡◌, refl, ap, ◌∙◌, Bool, true, false, ◌&&◌, cond, List, None, Some, Result, Ok, ltb, length, eq-eqb}
use Rattle.sizes.specs.Sizes.{state-size}
use Rattle.sizes.specs.declared.answers.Refusal.{Refusal}
use Rattle.rules.specs.Answers.{Answer, BadRecord}
use Rattle.screen.specs.declared.Screen.{Screen}
use Rattle.host.specs.State.{screen-at, good-words, screen_of, before_4, refused_at, at_held, on}
use Rattle.host.specs.Asked.{granted}

-- what is 1, 2, 3 or 4 stays
again : (n : ℕ) → before_4 n ≡ before_4 (before_4 n)
unfolding before_4
again n = go (ltb 0 n && ltb n BadRecord) refl
  where
    go : (b : Bool) → (ltb 0 n && ltb n BadRecord) ≡ b
        → cond b n BadRecord ≡ cond (ltb 0 (cond b n BadRecord) && ltb (cond b n BadRecord) BadRecord) (cond b n BadRecord) BadRecord
    go true e = rw e
    go false e = refl

-- 17 words that are refused
refused-17 : (st : List ℕ) (g : Screen → ℕ) → length st ≡ state-size → before_4 (g (screen-at st)) ≡ refused_at st g
unfolding refused_at
refused-17 st g long = rw (eq-eqb _ _ long)

-- on words that a call of any kind is lent
module _ {T : Type 0} (good : Bool) (st : List ℕ) (t : T) (f : Screen → Answer T) (long : length st ≡ state-size) where
  pub kept-on : before_4 (f (screen-at st)).number ≡ before_4 (on good st t f).number
  unfolding screen_of
  kept-on = go (good && good-words st)
    where
      go : (b : Bool) → before_4 (f (screen-at st)).number ≡ before_4 (at_held (cond b (Some (screen-at st)) None) st t f).number
      go true = refl
      go false = again (f (screen-at st)).number ∙ ap before_4 (refused-17 st (λ (s : Screen). (f s).number) long)

-- .. in the setup that its words ask for, or for the file that its number and words say
pub kept_in : {A T : Type 0} (o : Result A Refusal) (q : A) (n : Refusal → ℕ) (t : T) (f : A → Answer T) (own : ℕ) → Ok q ≡ o
    → before_4 own ≡ before_4 (f q).number → before_4 own ≡ before_4 (granted o n t f).number
kept_in o q n t f own e h = rw (← e, h)
