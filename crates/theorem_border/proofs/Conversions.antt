-- A refused conversion leaves its list and its result word. Assumes nothing.
use Rattle.std.proofs.Common.{ℕ, ◌≡◌, refl, Bool, true, false, cond, List, [], Option, None, Some, ltb, length, ne_eqb}
use Rattle.sizes.specs.declared.edition.Edition.{Edition}
use Rattle.sizes.specs.declared.edition.Edition.TheVariants.{One, Two}
use Rattle.rules.specs.Answers.{Answer, answer, settle, Done, BadForm, NoRoom}
use Rattle.rules.specs.Setups.{Mode}
use Rattle.rules.specs.Recording.{File, in-edition, parsed, shape}
use Rattle.rules.specs.Conversions.{file-of, converted, judge-sections, conversion, convert-call}
use Rattle.paint.proofs.Kept.{Refused, unsettled}
use Rattle.host.specs.Border.{unasked_number}
use Rattle.host.specs.Editions.{asked_mode, conversion_in, conversion_call}
use Rattle.host.proofs.Refused.{asked-kept}
use Rattle.theorem_border.specs.Refused.{ToTwoRefused, ToOneRefused}

module _ (f : File) (e : Edition) where
  -- a refusal has no words
  bare : (m : Mode) → Refused (conversion m e f) → (conversion m e f).value ≡ []
  unfolding conversion
  bare m = go (parsed f)
    where
      go : (o : Option (List (List (List ℕ))))
          → let a : Answer (List ℕ) = elim o [ None ↦ answer BadForm [] | Some ss ↦ settle (judge-sections m e ss) [] (file-of e (converted (shape e) ss)) ] in
          Refused a → a.value ≡ []
      go None q = refl
      go (Some ss) q = unsettled (judge-sections m e ss) [] (file-of e (converted (shape e) ss)) q

  bare-call : (m : Mode) (n : ℕ) → Refused (convert-call m e n f) → (convert-call m e n f).value ≡ []
  unfolding convert-call
  bare-call m n = go (ltb n (length (conversion m e f).value))
    where
      go : (b : Bool) → let a = cond b (answer NoRoom []) (conversion m e f) in Refused a → a.value ≡ []
      go true q = refl
      go false q = bare m q

  kept-in : (m : Mode) (out n : List ℕ) → Refused (conversion_in f e m out n) → (conversion_in f e m out n).value ≡ (out, n)
  unfolding conversion_in
  kept-in m out n q = rw (bare-call m (length out) q, ne_eqb (convert-call m e (length out) f).number Done q)

  conversion-refused : (mode : ℕ) (out n : List ℕ) → Refused (conversion_call f e mode out n) → (conversion_call f e mode out n).value ≡ (out, n)
  unfolding conversion_call
  conversion-refused mode out n =
      asked-kept (asked_mode mode) (unasked_number f) (out, n) (λ (m : Mode). conversion_in f e m out n) (λ m. kept-in m out n)

pub to-two-refused : ToTwoRefused
to-two-refused ws = conversion-refused (in-edition One ws) Two

pub to-one-refused : ToOneRefused
to-one-refused ws = conversion-refused (in-edition Two ws) One
