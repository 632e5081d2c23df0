-- Commands judged one after the other.
use Rattle.std.proofs.Common.{◌≡◌, refl, sym, ap, ◌∙◌, ℕ, ◌+◌, ◌-◌, ◌≤◌, ◌<◌, Bool, true, false, List, Option, None, Some, is_some, is_none, option_map}
use Rattle.rules.specs.Attributes.{Attrs}
use Rattle.paint.specs.Painting.{command-at}
use Rattle.compact.specs.declared.commands.Kind.{Kind}
use Rattle.compact.specs.Reading.{good-command, commands-from}
use Rattle.compact.specs.Passing.{kind-of}
use Rattle.compact.proofs.Froms.{some-more, none-here, all-some}

unmapped : {A B : Type 0} (f : A → B) (o : Option A) → is_none o ≡ is_none (option_map f o)
unmapped f None = refl
unmapped f (Some x) = refl

module _ (a : Attrs) (ws : List ℕ) (count k : ℕ) (r : Option Kind) (e : r ≡ option_map (kind-of a) (good-command a (command-at ws k))) where
  told : {b : Bool} → is_none r ≡ b → is_none (good-command a (command-at ws k)) ≡ b
  told h = unmapped (kind-of a) (good-command a (command-at ws k)) ∙ ap is_none (sym e) ∙ h

  pub good-on : k < count → is_none r ≡ false → is_some (commands-from a ws (k + 1) (count - (k + 1))) ≡ is_some (commands-from a ws k (count - k))
  good-on h n = some-more (λ i. good-command a (command-at ws i)) count k h (told n)

  pub forged-here : k < count → is_none r ≡ true → is_some (commands-from a ws k (count - k)) ≡ false
  forged-here h n = none-here (λ i. good-command a (command-at ws i)) count k h (told n)

pub all-good : (a : Attrs) (ws : List ℕ) (count k : ℕ) → count ≤ k → is_some (commands-from a ws k (count - k)) ≡ true
all-good a ws = all-some (λ i. good-command a (command-at ws i))
