-- What is answered about a file.
use Rattle.std.proofs.Common.{◌≡◌, ℕ, ◌<◌, Bool, true, false, List, length, take, None, Some, sym, ap, ◌∙◌, lt-ltb}
use Rattle.rules.specs.Answers.{BadForm}
use Rattle.sizes.specs.declared.edition.Edition.{Edition}
use Rattle.rules.specs.Setups.{Setup}
use Rattle.rules.specs.Recording.{in-edition}
use Rattle.rules.specs.Lines.{words_of}
use Rattle.rules_reason.specs.Answers as rule
use Rattle.rules_reason.specs.Answers.{refused-bytes, why-words, why-text}
use Rattle.text_programs.specs.Arguments.{Wanted}
use Rattle.text_programs.proofs.Cut.{cut}
use Rattle.text_files.proofs.Cut.{by_reading-cut}
use Rattle.text_tiles.specs.Printed.{ReadsTo}
use Rattle.text_why.specs.declared.Question.{Question}
use Rattle.text_why.specs.Questions.{question-of}
use Rattle.run_why.specs.Printed.{answer}

module _ (row tile : ℕ) (x : rule.Question) (e : Edition) (q : Setup) where
  long-why : (xs : List ℕ) → 65536 < length xs → why-text e q xs row tile x ≡ refused-bytes BadForm
  unfolding why-text
  long-why xs h =
      ap (λ (b : Bool). elim b [ true ↦ refused-bytes BadForm | false ↦ elim (words_of xs) [ None ↦ refused-bytes BadForm | Some ws ↦ why-words q (in-edition e ws) row tile x ] ])
      (lt-ltb 65536 (length xs) h)

  why-cut : (fs : List ℕ) → why-text e q (take 65537 fs) row tile x ≡ why-text e q fs row tile x
  why-cut = cut (λ fs. why-text e q fs row tile x) (λ xs ys h k. long-why xs h ∙ sym (long-why ys k))

-- a file that is cut where it is too long is answered about as the whole is
pub answer-cut : (w : Wanted) (q : Question) → ReadsTo 65537 (answer w q)
answer-cut w q p fs = by_reading-cut (λ e u gs. why-text e u gs p.row p.tile (question-of q)) (why-cut p.row p.tile (question-of q)) w.reading fs
