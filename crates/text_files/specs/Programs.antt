-- The texts that the programs print of a recording file's bytes.
use Rattle.std.specs.Prelude.{ℕ, true, false, List, ◌++◌, length, drop}
use Rattle.std.specs.Prelude.{None, Some}
use Rattle.sizes.specs.declared.edition.Edition.{Edition}
use Rattle.rules.specs.Answers.{BadForm}
use Rattle.rules.specs.Setups.{Setup}
use Rattle.rules.specs.Recording.{in-edition}
use Rattle.rules.specs.Lines.{too_long, words_of, rowlist-screen, rowlist, no-width, no-edition, usual}
use Rattle.text.specs.Listed.{text_of}
use Rattle.text_programs.specs.Arguments.{ReadAs, as-screen, as-no-width, as-no-edition}

-- the number that `rowlist` has of the bytes of a file of an edition: 0, or that of its refusal
unfoldable pub rowlist-number : Edition → Setup → List ℕ → ℕ
rowlist-number e q fs =
    elim (too_long (length fs)) [
      | true ↦ BadForm
      | false ↦ elim (words_of fs) [ None ↦ BadForm | Some ws ↦ (rowlist-screen q (in-edition e ws)).number ]
    ]

-- `rowlist`: the rules' own lines
abbrev pub rowlist-text : Edition → Setup → List ℕ → List ℕ
rowlist-text e q fs = text_of (rowlist e q fs)

-- every program, where the width asked for is none: the rules' line; where the edition is none, the rules' line of every file
abbrev pub no-width-text : Edition → List ℕ → List ℕ
no-width-text e fs = text_of (no-width e fs)

abbrev pub no-edition-text : List ℕ
no-edition-text = text_of no-edition

-- what is printed of a file's bytes, read as the options ask, given the text of a screen
abbrev pub by_reading : (Edition → Setup → List ℕ → List ℕ) → ReadAs → List ℕ → List ℕ
by_reading text (as-screen e m w) fs = text e (usual m w) fs
by_reading text (as-no-width e) fs = no-width-text e fs
by_reading text as-no-edition fs = no-edition-text

-- a text at the start of some bytes; what was after it stays
abbrev pub first : List ℕ → List ℕ → List ℕ
first ts bs = ts ++ drop (length ts) bs
