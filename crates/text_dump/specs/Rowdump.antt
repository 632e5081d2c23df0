-- The text that `rowdump` prints of one recording: over the rules alone.
use Rattle.std.specs.Prelude.{ℕ, ◌≤◌, ◌≡◌, Bool, true, false, List, [], ◌∷◌, ◌++◌, length, codes}
use Rattle.std.specs.Prelude.{None, Some}
use Rattle.sizes.specs.declared.edition.Edition.{Edition}
use Rattle.rules.specs.Setups.{Setup}
use Rattle.rules.specs.Recording.{in-edition}
use Rattle.rules.specs.Lines.{words_of, too_long, digits}
use Rattle.text.specs.Details.{Detail, rowdump-words}
use Rattle.text.specs.Bytes.{details-text}
use Rattle.text_files.specs.Programs.{rowlist-text, no-width-text, no-edition-text, first}

-- the words "recording "
abbrev pub recording-text : List ℕ
recording-text = codes "recording "

-- the first line: the recording's number in the stream, in decimal
unfoldable pub recording-line : ℕ → List ℕ
recording-line i = recording-text ++ (digits 20 i ++ (10 ∷ []))

-- attributes, filter paints and pieces of the bytes of a file of an edition; none of a file that is refused
unfoldable pub rowdump-lines : Edition → Setup → List ℕ → List Detail
rowdump-lines e q fs =
    elim (too_long (length fs)) [
      | true ↦ []
      | false ↦ elim (words_of fs) [ None ↦ [] | Some ws ↦ rowdump-words q (in-edition e ws) ]
    ]

-- what stands after the first line: the rules' `rowlist` of the bytes, then the details; v: panels are shown
abbrev pub file-lines-text : Bool → Edition → Setup → List ℕ → List ℕ
file-lines-text v e q fs = rowlist-text e q fs ++ details-text v (rowdump-lines e q fs)

abbrev pub rowdump-text : Bool → Edition → Setup → ℕ → List ℕ → List ℕ
rowdump-text v e q i fs = recording-line i ++ file-lines-text v e q fs

-- where the width asked for is none, and where the edition is
abbrev pub no-width-dump : Edition → ℕ → List ℕ → List ℕ
no-width-dump e i fs = recording-line i ++ no-width-text e fs

abbrev pub no-edition-dump : ℕ → List ℕ
no-edition-dump i = recording-line i ++ no-edition-text

-- the text ts was put first into the bytes bs, which held it: r is how long it is, cs are the bytes afterwards
pub record Printed (ts bs : List ℕ) (r : ℕ) (cs : List ℕ) : Type 0 where
  pub count : r ≡ length ts
  pub bytes : cs ≡ first ts bs
  pub few : r ≤ length bs
