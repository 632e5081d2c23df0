-- The figures of a file that is cut where it is too long are those of the whole file.
use Rattle.std.proofs.Common.{◌≡◌, ℕ, ◌<◌, Bool, true, false, List, length, take, None, Some, refl, sym, ap, ◌∙◌, lt-ltb}
use Rattle.sizes.specs.declared.edition.Edition.{Edition}
use Rattle.rules.specs.Setups.{Setup}
use Rattle.rules.specs.Recording.{in-edition}
use Rattle.rules.specs.Lines.{words_of, rowlist-place, usual}
use Rattle.rules_figures.specs.Figures.{one-refused}
use Rattle.rules_figures.specs.Recordings.{of-file}
use Rattle.rules_figures.specs.Lines.{of-bytes}
use Rattle.text_programs.specs.Arguments.{ReadAs, as-screen, as-no-width, as-no-edition}
use Rattle.text_programs.proofs.Cut.{cut}
use Rattle.run_figures.specs.Printed.{figures_read}

module _ (e : Edition) (q : Setup) where
  long-refused : (xs : List ℕ) → 65536 < length xs → of-bytes e q xs ≡ one-refused
  unfolding of-bytes
  long-refused xs h =
      ap (λ (b : Bool). elim b [
        | true ↦ one-refused
        | false ↦ elim (words_of xs) [ None ↦ one-refused | Some ws ↦ of-file (rowlist-place q (in-edition e ws)) (in-edition e ws) ]
      ])
      (lt-ltb 65536 (length xs) h)

  bytes-cut : (fs : List ℕ) → of-bytes e q (take 65537 fs) ≡ of-bytes e q fs
  bytes-cut = cut (of-bytes e q) (λ xs ys h k. long-refused xs h ∙ sym (long-refused ys k))

-- .. however it is read
pub figures-cut : (r : ReadAs) (fs : List ℕ) → figures_read r (take 65537 fs) ≡ figures_read r fs
figures-cut (as-screen e m w) fs = bytes-cut e (usual m w) fs
figures-cut (as-no-width e) fs = refl
figures-cut as-no-edition fs = refl
