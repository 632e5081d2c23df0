-- A refused `coarse_` call leaves the state's words, and everything else that it was lent, as they were: each call by the definition that its contract
-- cites, at any words whatever. Of a refused recording `RecordingRefused` says what it leaves, since it may have reset the screen.
use Rattle.std.specs.Prelude.{ℕ, ◌≡◌, List, Float, ℤ}
use Rattle.rules.specs.Spans.{Span}
use Rattle.span.specs.declared.TileSpan.{TileSpan}
use Rattle.rect.specs.declared.Rect.{Rect}
use Rattle.row.specs.Words.{Words}
use Rattle.screen.specs.Depths.{Depths}
use Rattle.screen.specs.Tables.{Tables}
use Rattle.screen.specs.declared.layers.LayerProps.{LayerProps}
use Rattle.inputs.specs.declared.Draw.{Draw}
use Rattle.layers.specs.Filter.{FilterGiven}
use Rattle.pop.specs.Pop as pop
use Rattle.paint.specs.Painting as paint
use Rattle.paint.specs.Stepping.{Attributes}
use Rattle.theorem_picture.specs.Kept.{Refused}
use Rattle.host.specs.declared.state.SetupWords.{SetupWords}
use Rattle.host.specs.Asked.{FileWords}
use Rattle.host.specs.Editions.{two_call, one_call}
use Rattle.host.specs.Sizes.{size_call}
use Rattle.host.specs.Compacted.{compact_call}
use Rattle.host.specs.Reasons.{why_call}
use Rattle.host.specs.TileList.{tile_list_call}
use Rattle.host.specs.Figured.{figures_call}
use Rattle.host.specs.Building.{reset_call, used_call, fill_call, push_call, pop_call, filter_call}
use Rattle.host.specs.Painting.{begin_call, step_call, row_call, own_row_call, unset_call, visible_call, write_call, hidden_call, skip_call, split_call}
use Rattle.host.specs.Spans.{spans_call}
use Rattle.host.specs.Reading.{lengths_call, cmd_call, depth_call, progress_call}

-- state and all tables
abbrev pub ResetRefused : Type 0
ResetRefused = (v : Rect) (w : SetupWords) (st : List ℕ) (t : Tables) → Refused (reset_call v w st t) → (reset_call v w st t).value ≡ (st, t)

abbrev pub UsedRefused : Type 0
UsedRefused = (st : List ℕ) (t : Tables) → Refused (used_call st t) → (used_call st t).value ≡ (st, t)

-- state, rows, and the tables that the step writes
abbrev pub FillRefused : Type 0
FillRefused =
    (ps ss : List ℕ) (d : Draw) (st : List ℕ) (w : Words) (pas : List ℕ) → Refused (fill_call ps ss d st w pas)
    → (fill_call ps ss d st w pas).value ≡ (st, w, pas)

abbrev pub PushRefused : Type 0
PushRefused =
    (flag : ℕ) (p : LayerProps) (st : List ℕ) (w : Words) (ls : List ℕ) (os : List Float) → Refused (push_call flag p st w ls os)
    → (push_call flag p st w ls os).value ≡ (st, w, ls, os)

abbrev pub PopRefused : Type 0
PopRefused = (ss st : List ℕ) (l : pop.PopLent) → Refused (pop_call ss st l) → (pop_call ss st l).value ≡ (st, l)

abbrev pub FilterRefused : Type 0
FilterRefused =
    (flag : ℕ) (g : FilterGiven) (st : List ℕ) (w : Words) (pas : List ℕ) (fps : List ℤ) → Refused (filter_call flag g st w pas fps)
    → (filter_call flag g st w pas fps).value ≡ (st, w, pas, fps)

-- state, depth words with their minima, painting words
abbrev pub BeginRefused : Type 0
BeginRefused = (st : List ℕ) (d : Depths) (p : List ℕ) → Refused (begin_call st d p) → (begin_call st d p).value ≡ (st, d, p)

-- state and rows
abbrev pub CompactRefused : Type 0
CompactRefused = (r : ℕ) (a : Attributes) (st : List ℕ) (w : Words) → Refused (compact_call r a st w) → (compact_call r a st w).value ≡ (st, w)

-- depth words with their minima, painting words, the list, the result words
abbrev pub StepRefused : Type 0
StepRefused =
    (r : ℕ) (a : Attributes) (st : List ℕ) (l : paint.RowLent) (res : List ℕ) → Refused (step_call r a st l res)
    → (step_call r a st l res).value ≡ (l.depth, l.painting, l.list, res)

abbrev pub RowRefused : Type 0
RowRefused =
    (r : ℕ) (a : Attributes) (st : List ℕ) (l : paint.RowLent) (res : List ℕ) → Refused (row_call r a st l res)
    → (row_call r a st l res).value ≡ (l.depth, l.painting, l.list, res)

abbrev pub OwnRowRefused : Type 0
OwnRowRefused =
    (a : Attributes) (st : List ℕ) (l : paint.RowLent) (res : List ℕ) → Refused (own_row_call a st l res)
    → (own_row_call a st l res).value ≡ (l.depth, l.painting, l.list, res)

-- the list and the count
abbrev pub UnsetRefused : Type 0
UnsetRefused =
    (r : ℕ) (t : Span) (st d l n : List ℕ) → Refused (unset_call r t st d l n) → (unset_call r t st d l n).value ≡ (l, n)

abbrev pub VisibleRefused : Type 0
VisibleRefused =
    (r : ℕ) (t : Span) (id : ℕ) (st d l n : List ℕ) → Refused (visible_call r t id st d l n) → (visible_call r t id st d l n).value ≡ (l, n)

abbrev pub SpansRefused : Type 0
SpansRefused =
    (r : ℕ) (t : Span) (id : ℕ) (st d : List ℕ) (l : List TileSpan) (n : List ℕ) → Refused (spans_call r t id st d l n)
    → (spans_call r t id st d l n).value ≡ (l, n)

-- state, depth words with their minima, the list and the count
abbrev pub WriteRefused : Type 0
WriteRefused =
    (r : ℕ) (t : Span) (id : ℕ) (st : List ℕ) (d : Depths) (l n : List ℕ) → Refused (write_call r t id st d l n)
    → (write_call r t id st d l n).value ≡ (st, d, l, n)

-- the result word
abbrev pub HiddenRefused : Type 0
HiddenRefused =
    (r : ℕ) (t : Span) (id : ℕ) (st ms old : List ℕ) → Refused (hidden_call r t id st ms old) → (hidden_call r t id st ms old).value ≡ old

-- the result words
abbrev pub SkipRefused : Type 0
SkipRefused =
    (r : ℕ) (t : Span) (id : ℕ) (st rows old : List ℕ) → Refused (skip_call r t id st rows old) → (skip_call r t id st rows old).value ≡ old

-- the result
abbrev pub LengthsRefused : Type 0
LengthsRefused = (r : ℕ) (t : Words) (st old : List ℕ) → Refused (lengths_call r t st old) → (lengths_call r t st old).value ≡ old

abbrev pub CmdRefused : Type 0
CmdRefused = (r : ℕ) (t : Words) (i : ℕ) (st old : List ℕ) → Refused (cmd_call r t i st old) → (cmd_call r t i st old).value ≡ old

abbrev pub DepthRefused : Type 0
DepthRefused = (r : ℕ) (t : Words) (i : ℕ) (st old : List ℕ) → Refused (depth_call r t i st old) → (depth_call r t i st old).value ≡ old

abbrev pub ProgressRefused : Type 0
ProgressRefused = (r : ℕ) (painting st old : List ℕ) → Refused (progress_call r painting st old) → (progress_call r painting st old).value ≡ old

abbrev pub SplitRefused : Type 0
SplitRefused = (pixels : ℕ) (s : Span) (old : List ℕ) → Refused (split_call pixels s old) → (split_call pixels s old).value ≡ old

abbrev pub SizesRefused : Type 0
SizesRefused = (v : Rect) (w : SetupWords) (old : List ℕ) → Refused (size_call v w old) → (size_call v w old).value ≡ old

-- `coarse_why`: its result words. The rest is what `coarse_bucket_recording` leaves.
abbrev pub WhyRefused : Type 0
WhyRefused =
    (f : FileWords) (w : SetupWords) (row tile layer attribute : ℕ) (st : List ℕ) (t : Tables) (old : List ℕ)
    → Refused (why_call f w row tile layer attribute st t old) → (why_call f w row tile layer attribute st t old).value.2 ≡ old

-- the list and the count
abbrev pub ListTileRefused : Type 0
ListTileRefused =
    (f : FileWords) (mode width row tile : ℕ) (list n : List ℕ) → Refused (tile_list_call f mode width row tile list n)
    → (tile_list_call f mode width row tile list n).value ≡ (list, n)

-- state, tables and numbers
abbrev pub FiguresRefused : Type 0
FiguresRefused =
    (f : FileWords) (es : List ℕ) (w : SetupWords) (st : List ℕ) (t : Tables) (ns : List ℕ) → Refused (figures_call f es w st t ns)
    → (figures_call f es w st t ns).value ≡ (st, t, ns)

-- the list and the result word
abbrev pub ToTwoRefused : Type 0
ToTwoRefused = (ws : List ℕ) (mode : ℕ) (out n : List ℕ) → Refused (two_call ws mode out n) → (two_call ws mode out n).value ≡ (out, n)

abbrev pub ToOneRefused : Type 0
ToOneRefused = (ws : List ℕ) (mode : ℕ) (out n : List ℕ) → Refused (one_call ws mode out n) → (one_call ws mode out n).value ≡ (out, n)
