-- The conversions on a host's words: refused where the mode's word says none, else the call's own equation, carried over to the words.
use Rattle.std.proofs.Common.{ℕ, ◌≡◌, ap, ◌∙◌, List, [], ◌∷◌, Result, Ok, Err, length}
use Rattle.sizes.specs.declared.answers.Refusal.{Refusal}
use Rattle.sizes.specs.declared.edition.Edition.{Edition}
use Rattle.rules.specs.Answers.{Answer, answer}
use Rattle.rules.specs.Setups.{Mode}
use Rattle.rules.specs.Recording.{File}
use Rattle.rules.specs.Conversions.{convert-call}
use Rattle.convert.specs.Placed.{Placed, placed, put_first}
use Rattle.host.specs.Border.{unasked_number}
use Rattle.host.specs.Results.{result}
use Rattle.host.specs.Editions.{asked_mode, count-left, conversion_in, conversion_call}
use Rattle.host.proofs.ScreenAsked.{not-asked, as-asked}

module _ (f : File) (e : Edition) (mode : ℕ) (out n : List ℕ) where
  pub mode_unasked : (r : Refusal) → Err r ≡ asked_mode mode → answer (unasked_number f r) (out, n) ≡ conversion_call f e mode out n
  unfolding conversion_call
  mode_unasked r q = not-asked (asked_mode mode) (unasked_number f) (out, n) (λ (m : Mode). conversion_in f e m out n) r q

  -- r: what the call gave; k and n': its number and the result word afterwards
  pub mode_asked : (m : Mode) → Ok m ≡ asked_mode mode → (r : Result ℕ Refusal) (out' n' : List ℕ) (k : ℕ)
      → placed r out' ≡ put_first (convert-call m e (length out) f) out → answer k n' ≡ count-left n r → answer k (out', n') ≡ conversion_call f e mode out n
  unfolding conversion_call conversion_in
  mode_asked m q r out' n' k p l =
      ap (λ (x : Answer (List ℕ)). answer x.number (out', x.value)) l
      ∙ ap (λ (y : Placed). answer y.number (y.words, result y.number (y.count ∷ []) n)) p
      ∙ as-asked (asked_mode mode) (unasked_number f) (out, n) (λ (m : Mode). conversion_in f e m out n) m q
