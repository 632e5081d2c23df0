-- The text of a list of recordings' figures: a line for each recording, in the list's order, then one for all of them.
use Rattle.std.specs.Prelude.{ℕ, suc, true, false, cond, List, [], ◌∷◌, ◌++◌, length, ltb, codes}
use Rattle.std.specs.Prelude.{None, Some}
use Rattle.sizes.specs.declared.edition.Edition.{Edition}
use Rattle.rules.specs.Answers.{BadRecord}
use Rattle.rules.specs.Setups.{Setup}
use Rattle.rules.specs.Recording.{in-edition}
use Rattle.rules.specs.Lines.{digits, refused, line-bytes, words_of, too_long, rowlist-place}
use Rattle.rules_figures.specs.Accounted.{most-recordings}
use Rattle.rules_figures.specs.Figures.{Figures, one-refused, total}
use Rattle.rules_figures.specs.Recordings.{of-file}

-- The figures of the bytes of a file of an edition: refused where they are more than 65,536 or no whole words, else played in rowlist's place.
unfoldable pub of-bytes : Edition → Setup → List ℕ → Figures
of-bytes e q fs =
    elim (too_long (length fs)) [
      | true ↦ one-refused
      | false ↦ elim (words_of fs) [ None ↦ one-refused | Some ws ↦ of-file (rowlist-place q (in-edition e ws)) (in-edition e ws) ]
    ]

-- words, a space, a number
abbrev pub named : List ℕ → ℕ → List ℕ
named ws n = ws ++ (32 ∷ digits 20 n)

-- the six figures, and the line feed
unfoldable pub figures-text : Figures → List ℕ
figures-text g =
    named (codes " asked") g.asked
    ++ (named (codes " painted") g.painted
    ++ (named (codes " hidden") g.hidden
    ++ (named (codes " commands") g.commands ++ (named (codes " fills") g.fills ++ (named (codes " refused") g.refused ++ (10 ∷ []))))))

-- the line of recording i
unfoldable pub recording-line : ℕ → Figures → List ℕ
recording-line i g = named (codes "recording") i ++ figures-text g

-- .. and that of all of them
unfoldable pub total-line : Figures → List ℕ
total-line g = codes "total" ++ figures-text g

-- the lines of recordings, from number i on
abbrev pub lines-from : ℕ → List Figures → List ℕ
lines-from i [] = []
lines-from i (g ∷ gs) = recording-line i g ++ lines-from (suc i) gs

-- those of a list, and its last line
abbrev pub all-lines : List Figures → List ℕ
all-lines gs = lines-from 0 gs ++ total-line (total gs)

-- more than 65,536 recordings are refused, all of them
abbrev pub many-line : List ℕ
many-line = line-bytes (refused BadRecord)

unfoldable pub list-text : List Figures → List ℕ
list-text gs = cond (ltb most-recordings (length gs)) many-line (all-lines gs)
