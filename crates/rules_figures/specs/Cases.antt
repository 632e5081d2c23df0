-- The figures at known points: histories whose tiles are counted by hand, files, totals, and the text of lists of files.
use Rattle.std.specs.Prelude.{ℕ, ◌≡◌, List, [], ◌∷◌, map, codes}
use Rattle.sizes.specs.declared.edition.Edition.TheVariants.{One}
use Rattle.sizes.specs.declared.width.Width.TheVariants.{W128}
use Rattle.rules.specs.Boxes.{box}
use Rattle.rules.specs.Rows.{fresh-row}
use Rattle.rules.specs.Plans.{Frame, Step, a-fill, a-filter}
use Rattle.rules.specs.Steps.{reset}
use Rattle.rules.specs.Recording.{in-one}
use Rattle.rules.specs.Setups.{Setup, exact}
use Rattle.rules.specs.Lines.{usual, rowlist-place}
use Rattle.rules.specs.cases.Samples.{solid, alpha, opaque-paint, draw, filter}
use Rattle.rules.specs.cases.Compacted.{frame, steps, after}
use Rattle.rules.specs.cases.WorkedExample.{worked-words, worked-bytes}
use Rattle.rules_figures.specs.Figures.{Figures, one-refused, figures, total, numbers, table}
use Rattle.rules_figures.specs.Recordings.{of-file}
use Rattle.rules_figures.specs.RowFigures.{screen-figures}
use Rattle.rules_figures.specs.Lines.{of-bytes, list-text}

-- two rows of two buckets
abbrev pub two-rows : Frame
two-rows = record { viewport = box 0 0 256 8; c = 9; d = 9; width = W128 }

abbrev pub fill : ℕ → ℕ → Step
fill a b = a-fill (opaque-paint ∷ []) (solid 0 a b ∷ []) (draw 0 1)

-- the numbers of a history, and those that its rows say
abbrev pub history-numbers : Frame → List Step → List ℕ
history-numbers f xs = numbers (figures f xs (after xs (reset fresh-row f)))

abbrev pub row-numbers : Frame → List Step → List ℕ
row-numbers f xs = numbers (screen-figures (after xs (reset fresh-row f)))

-- a banner, and a newer fill of part of one of its buckets: all of both is painted
abbrev pub part-over : List Step
part-over = fill 0 128 ∷ fill 36 60 ∷ []

-- .. or of one bucket and parts of its neighbours: one bucket is hidden
abbrev pub bucket-over : List Step
bucket-over = fill 0 128 ∷ fill 20 70 ∷ []

-- a segment under a newer one of the same tiles, which hides all of it but what lies in no whole bucket
abbrev pub same-over : List Step
same-over = fill 20 70 ∷ fill 20 70 ∷ []

-- a fill that covers its buckets hides nothing that is newer
abbrev pub fill-under : List Step
fill-under = fill 0 128 ∷ a-fill (opaque-paint ∷ []) (alpha 0 40 60 0 ∷ []) (draw 0 1) ∷ []

-- a filter over both rows
abbrev pub filtered : List Step
filtered = a-filter 1 (filter 5 (box 0 0 128 8) 0 0) 0 ∷ []

-- files in rowlist's place, at a setup
abbrev pub file-numbers : Setup → List ℕ → List ℕ
file-numbers q ws = numbers (of-file (rowlist-place q (in-one ws)) (in-one ws))

abbrev pub standard : Setup
standard = usual exact W128

-- .. with room for n commands a row
abbrev pub room-for : ℕ → Setup
room-for n = record { c = n; d = standard.d; mode = standard.mode; width = standard.width }

-- the text of files of edition one, by their bytes
abbrev pub text : List (List ℕ) → List ℕ
text fss = list-text (map (of-bytes One standard) fss)

abbrev pub some-figures : Figures
some-figures = record { asked = 400; painted = 194; hidden = 206; commands = 5; fills = 2; refused = 0 }

-- Each line: asked, painted, hidden; commands, depth fills; refused.
pub record FiguresHold : Type 0 where
  pub told : history-numbers frame steps ≡ 400 ∷ 194 ∷ 206 ∷ 6 ∷ 2 ∷ 0 ∷ []
  pub read : row-numbers frame steps ≡ 400 ∷ 194 ∷ 206 ∷ 6 ∷ 2 ∷ 0 ∷ []
  pub part : row-numbers frame part-over ≡ 152 ∷ 152 ∷ 0 ∷ 1 ∷ 1 ∷ 0 ∷ []
  pub bucket : row-numbers frame bucket-over ≡ 178 ∷ 146 ∷ 32 ∷ 2 ∷ 2 ∷ 0 ∷ []
  pub same : row-numbers frame same-over ≡ 100 ∷ 68 ∷ 32 ∷ 4 ∷ 2 ∷ 0 ∷ []
  pub under : row-numbers frame fill-under ≡ 148 ∷ 148 ∷ 0 ∷ 1 ∷ 1 ∷ 0 ∷ []
  pub filter-told : history-numbers two-rows filtered ≡ 64 ∷ 64 ∷ 0 ∷ 2 ∷ 0 ∷ 0 ∷ []
  pub filter-read : row-numbers two-rows filtered ≡ 64 ∷ 64 ∷ 0 ∷ 2 ∷ 0 ∷ 0 ∷ []
  pub worked-file : file-numbers standard worked-words ≡ 126 ∷ 126 ∷ 0 ∷ 5 ∷ 1 ∷ 0 ∷ []
  pub no-file : file-numbers standard [] ≡ 0 ∷ 0 ∷ 0 ∷ 0 ∷ 0 ∷ 1 ∷ []
  pub room : file-numbers (room-for 4) worked-words ≡ 126 ∷ 126 ∷ 0 ∷ 5 ∷ 1 ∷ 0 ∷ []
  pub no-room : file-numbers (room-for 3) worked-words ≡ 0 ∷ 0 ∷ 0 ∷ 0 ∷ 0 ∷ 1 ∷ []
  pub none : table [] ≡ 0 ∷ 0 ∷ 0 ∷ 0 ∷ 0 ∷ 0 ∷ []
  pub two : table (some-figures ∷ one-refused ∷ [])
      ≡ 400 ∷ 194 ∷ 206 ∷ 5 ∷ 2 ∷ 0 ∷ 0 ∷ 0 ∷ 0 ∷ 0 ∷ 0 ∷ 1 ∷ 400 ∷ 194 ∷ 206 ∷ 5 ∷ 2 ∷ 1 ∷ []
  pub twice : numbers (total (some-figures ∷ some-figures ∷ [])) ≡ 800 ∷ 388 ∷ 412 ∷ 10 ∷ 4 ∷ 0 ∷ []
  pub no-text : text [] ≡ codes "total asked 0 painted 0 hidden 0 commands 0 fills 0 refused 0\n"
  pub worked-text : text (worked-bytes ∷ [])
      ≡ codes "recording 0 asked 126 painted 126 hidden 0 commands 5 fills 1 refused 0\ntotal asked 126 painted 126 hidden 0 commands 5 fills 1 refused 0\n"
  pub refused-text : text (worked-bytes ∷ (1 ∷ 2 ∷ 3 ∷ []) ∷ [])
      ≡ codes "recording 0 asked 126 painted 126 hidden 0 commands 5 fills 1 refused 0\nrecording 1 asked 0 painted 0 hidden 0 commands 0 fills 0 refused 1\ntotal asked 126 painted 126 hidden 0 commands 5 fills 1 refused 1\n"
