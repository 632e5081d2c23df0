-- The programs read at most one byte more than the longest file has. What they print of a file that is cut there is what they print of the whole file.
use Rattle.std.proofs.Common.{◌≡◌, ℕ, ◌<◌, Bool, true, false, List, [], ◌∷◌, length, take, None, Some, refl, sym, ap, ◌∙◌, lt-ltb}
use Rattle.sizes.specs.declared.edition.Edition.{Edition}
use Rattle.rules.specs.Answers.{BadForm}
use Rattle.rules.specs.Setups.{Setup}
use Rattle.rules.specs.Recording.{in-edition}
use Rattle.rules.specs.Lines.{refused, words_of, rowlist-words, rowlist, no-width, usual}
use Rattle.text.specs.Listed.{text_of}
use Rattle.text_programs.specs.Arguments.{ReadAs, as-screen, as-no-width, as-no-edition}
use Rattle.text_programs.proofs.Cut.{cut}
use Rattle.text_files.specs.Programs.{rowlist-text, no-width-text, by_reading}

module _ (e : Edition) where
  long-rowlist : (q : Setup) (xs : List ℕ) → 65536 < length xs → rowlist-text e q xs ≡ text_of (refused BadForm ∷ [])
  unfolding rowlist
  long-rowlist q xs h =
      ap (λ (b : Bool). text_of (elim b [
        | true ↦ refused BadForm ∷ []
        | false ↦ elim (words_of xs) [ None ↦ refused BadForm ∷ [] | Some ws ↦ rowlist-words q (in-edition e ws) ]
      ]))
      (lt-ltb 65536 (length xs) h)

  long-no-width : (xs : List ℕ) → 65536 < length xs → no-width-text e xs ≡ text_of (refused BadForm ∷ [])
  unfolding no-width
  long-no-width xs h = rw (lt-ltb 65536 (length xs) h)

  pub rowlist-cut : (q : Setup) (fs : List ℕ) → rowlist-text e q (take 65537 fs) ≡ rowlist-text e q fs
  rowlist-cut q = cut (rowlist-text e q) (λ xs ys h k. long-rowlist q xs h ∙ sym (long-rowlist q ys k))

  no-width-cut : (fs : List ℕ) → no-width-text e (take 65537 fs) ≡ no-width-text e fs
  no-width-cut = cut (no-width-text e) (λ xs ys h k. long-no-width xs h ∙ sym (long-no-width ys k))

-- .. and so is what is printed of a file however it is read, given that of the text of a screen
pub by_reading-cut : (f : Edition → Setup → List ℕ → List ℕ) → ((e : Edition) (q : Setup) (fs : List ℕ) → f e q (take 65537 fs) ≡ f e q fs)
    → (r : ReadAs) (fs : List ℕ) → by_reading f r (take 65537 fs) ≡ by_reading f r fs
by_reading-cut f same (as-screen e m w) fs = same e (usual m w) fs
by_reading-cut f same (as-no-width e) fs = no-width-cut e fs
by_reading-cut f same as-no-edition fs = refl
