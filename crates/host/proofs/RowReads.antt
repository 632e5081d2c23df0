-- Where the host's words stand for no screen, a call that reads a row gives what it would say of the words' numbers, at the border.
use Rattle.std.proofs.Common.{◌≡◌, refl, ap, ◌∙◌, true, List, None, ℕ, Result, Ok, Err}
use Rattle.sizes.specs.declared.answers.Refusal.{Refusal}
use Rattle.sizes.specs.Refusals.{answer_number}
use Rattle.rules.specs.Answers.{Answer, answer}
use Rattle.depth.specs.Answers.{answered}
use Rattle.screen.specs.declared.Screen.{Screen}
use Rattle.host.specs.declared.state.StateWords.{StateWords}
use Rattle.host.specs.Held.{words_in}
use Rattle.host.specs.State.{screen-at, screen_of, before_4, refused_at, on}
use Rattle.host.specs.Reading.{read-left}
use Rattle.host.proofs.Words.{refused-on}

-- an answer has its result's number
answered-number : {A B : Type 0} (f : A → B) (d : B) (r : Result A Refusal) → answer_number r ≡ (answered f d r).number
answered-number f d (Ok x) = refl
answered-number f d (Err k) = refl

pub read_unheld : {A B : Type 0} (parts : B → List ℕ) (read : Screen → Answer B) (f : A → B) (d : B) (r : Result A Refusal) (w : StateWords) (s : Screen) (old : List ℕ) (n : ℕ)
    → None ≡ screen_of true (words_in w) → s ≡ screen-at (words_in w) → answered f d r ≡ read s → n ≡ before_4 (answer_number r)
    → answer n old ≡ on true (words_in w) old (λ (x : Screen). read-left parts old (read x))
unfolding refused_at
read_unheld {A} {B} parts read f d r w s old n h is e q =
    let k : answered f d r ≡ read (screen-at (words_in w)) = rw (← is) e in
    refused-on (screen_of true (words_in w)) (words_in w) old (λ (x : Screen). read-left parts old (read x)) (λ (x : Screen). (read x).number) n h
    (q ∙ ap before_4 (answered-number f d r ∙ ap (λ (a : Answer B). a.number) k)) (λ (x : Screen). refl)
