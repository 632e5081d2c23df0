-- A `coarse_` call answers its own call's 1, 2 or 3 wherever that has one, and no other 1, 2 or 3: also where the border itself refuses what the host
-- gives beside the screen (a painting word above 1, a flag above 1, a result of another length). The call's own number is what its definition says at
-- the screen that is read from the state's 17 words.
use Rattle.std.specs.Prelude.{ℕ, ◌≡◌, List, length, Float, ℤ}
use Rattle.sizes.specs.Sizes.{state-size}
use Rattle.rules.specs.Recording.{File}
use Rattle.rules.specs.Spans.{Span}
use Rattle.rules.specs.Setups.{Setup, frame}
use Rattle.span.specs.declared.TileSpan.{TileSpan}
use Rattle.rect.specs.declared.Rect.{Rect}
use Rattle.rect.specs.Rects.{box_of}
use Rattle.row.specs.Words.{Words}
use Rattle.screen.specs.Depths.{Depths}
use Rattle.screen.specs.Tables.{Tables, screen_lent, reset_to}
use Rattle.screen.specs.declared.layers.LayerProps.{LayerProps}
use Rattle.inputs.specs.declared.Draw.{Draw}
use Rattle.fill.specs.Fills as fills
use Rattle.fill.specs.Fills.{filled}
use Rattle.layers.specs.Push as push
use Rattle.layers.specs.Push.{pushed}
use Rattle.layers.specs.Filter as filter
use Rattle.layers.specs.Filter.{FilterGiven, filtered}
use Rattle.pop.specs.Pop as pop
use Rattle.pop.specs.Pop.{popped}
use Rattle.walk.specs.Recorded.{recorded}
use Rattle.tile.specs.Explained.{explained}
use Rattle.paint.specs.Painting as paint
use Rattle.paint.specs.Beginning.{canvas, beginning}
use Rattle.paint.specs.Stepping.{Attributes, stepped}
use Rattle.paint.specs.Running.{row-painted}
use Rattle.paint.specs.OwnRow.{own-row-painted}
use Rattle.paint.specs.DirectRuns.{unset-of, visible-of, write-of, hidden-of-row, skip-of-row}
use Rattle.paint.specs.StoredCmds.{lengths-of-row, command-of-row, depth-of-row, progress-of-row}
use Rattle.host.specs.declared.state.SetupWords.{SetupWords}
use Rattle.compact.specs.Call.{stored, compacting}
use Rattle.tally.specs.Listed.{figured}
use Rattle.host.specs.Compacted.{compact_call}
use Rattle.host.specs.Figured.{listed-in, figures_call}
use Rattle.host.specs.Asked.{FileWords}
use Rattle.host.specs.State.{screen-at, before_4}
use Rattle.host.specs.Reasons.{asked, why_call}
use Rattle.reuse.specs.Used.{used_reset}
use Rattle.host.specs.Building.{reset_call, used_call, recording_call, fill_call, push_call, pop_call, filter_call}
use Rattle.host.specs.Painting.{begin_call, step_call, row_call, own_row_call, unset_call, visible_call, write_call, hidden_call, skip_call}
use Rattle.host.specs.Spans.{runs_of, spans_call}
use Rattle.host.specs.Reading.{lengths_call, cmd_call, depth_call, progress_call}
use Rattle.theorem_border.specs.Hosted.{Asks, Says}

-- n: what the border answers on the state's words st; own: the call's own number. `before_4` leaves 1, 2 and 3, and makes a 4 of every other number.
abbrev pub Keeps : List ℕ → ℕ → ℕ → Type 0
Keeps st own n = length st ≡ state-size → before_4 own ≡ before_4 n

-- where the host's words ask for a setup, and its number says an edition: without either the number is the setup's own, or 3
abbrev pub ResetKeeps : Type 0
ResetKeeps =
    (v : Rect) (w : SetupWords) (q : Setup) (st : List ℕ) (t : Tables) → Asks w q
    → Keeps st (reset_to (frame q (box_of v)) (screen_lent (screen-at st) t)).number (reset_call v w st t).number

abbrev pub UsedKeeps : Type 0
UsedKeeps = (st : List ℕ) (t : Tables) → Keeps st (used_reset (screen_lent (screen-at st) t)).number (used_call st t).number

abbrev pub RecordingKeeps : Type 0
RecordingKeeps =
    (f : FileWords) (file : File) (w : SetupWords) (q : Setup) (st : List ℕ) (t : Tables) → Says f file → Asks w q
    → Keeps st (recorded file q (screen_lent (screen-at st) t)).number (recording_call f w st t).number

abbrev pub WhyKeeps : Type 0
WhyKeeps =
    (f : FileWords) (file : File) (w : SetupWords) (q : Setup) (row tile layer attribute : ℕ) (st : List ℕ) (t : Tables) (res : List ℕ)
    → Says f file → Asks w q
    → Keeps st (explained file q row tile (asked layer attribute) (screen_lent (screen-at st) t)).number (why_call f w row tile layer attribute st t res).number

abbrev pub FiguresKeeps : Type 0
FiguresKeeps =
    (f : FileWords) (file : File) (es : List ℕ) (w : SetupWords) (q : Setup) (st : List ℕ) (t : Tables) (ns : List ℕ) → Says f file → Asks w q
    → Keeps st (figured (listed-in file es) q (screen_lent (screen-at st) t) ns).number (figures_call f es w st t ns).number

abbrev pub FillKeeps : Type 0
FillKeeps =
    (ps ss : List ℕ) (d : Draw) (st : List ℕ) (w : Words) (pas : List ℕ)
    → Keeps st (filled (fills.fill_lent (screen-at st) w pas) ps ss d).number (fill_call ps ss d st w pas).number

abbrev pub PushKeeps : Type 0
PushKeeps =
    (flag : ℕ) (p : LayerProps) (st : List ℕ) (w : Words) (ls : List ℕ) (os : List Float)
    → Keeps st (pushed p (push.push_lent (screen-at st) w ls os)).number (push_call flag p st w ls os).number

abbrev pub PopKeeps : Type 0
PopKeeps = (ss st : List ℕ) (l : pop.PopLent) → Keeps st (popped (screen-at st) l ss).number (pop_call ss st l).number

abbrev pub FilterKeeps : Type 0
FilterKeeps =
    (flag : ℕ) (g : FilterGiven) (st : List ℕ) (w : Words) (pas : List ℕ) (fps : List ℤ)
    → Keeps st (filtered g (filter.filter_lent (screen-at st) w pas fps)).number (filter_call flag g st w pas fps).number

abbrev pub BeginKeeps : Type 0
BeginKeeps = (st : List ℕ) (d : Depths) (p : List ℕ) → Keeps st (beginning (canvas (screen-at st) d p)).number (begin_call st d p).number

abbrev pub CompactKeeps : Type 0
CompactKeeps = (r : ℕ) (a : Attributes) (st : List ℕ) (w : Words) → Keeps st (compacting r a (stored (screen-at st) w)).number (compact_call r a st w).number

abbrev pub StepKeeps : Type 0
StepKeeps =
    (r : ℕ) (a : Attributes) (st : List ℕ) (l : paint.RowLent) (res : List ℕ)
    → Keeps st (stepped (screen-at st) r a l).answer.number (step_call r a st l res).number

abbrev pub RowKeeps : Type 0
RowKeeps =
    (r : ℕ) (a : Attributes) (st : List ℕ) (l : paint.RowLent) (res : List ℕ)
    → Keeps st (row-painted (screen-at st) r a l).answer.number (row_call r a st l res).number

abbrev pub OwnRowKeeps : Type 0
OwnRowKeeps =
    (a : Attributes) (st : List ℕ) (l : paint.RowLent) (res : List ℕ)
    → Keeps st (own-row-painted (screen-at st) a l).answer.number (own_row_call a st l res).number

abbrev pub UnsetKeeps : Type 0
UnsetKeeps =
    (r : ℕ) (t : Span) (st d l n : List ℕ) → Keeps st (unset-of (screen-at st) r d t l).number (unset_call r t st d l n).number

abbrev pub VisibleKeeps : Type 0
VisibleKeeps =
    (r : ℕ) (t : Span) (id : ℕ) (st d l n : List ℕ) → Keeps st (visible-of (screen-at st) r d t id l).number (visible_call r t id st d l n).number

abbrev pub SpansKeeps : Type 0
SpansKeeps =
    (r : ℕ) (t : Span) (id : ℕ) (st d : List ℕ) (l : List TileSpan) (n : List ℕ)
    → Keeps st (runs_of (screen-at st) r d t id (length l)).number (spans_call r t id st d l n).number

abbrev pub WriteKeeps : Type 0
WriteKeeps =
    (r : ℕ) (t : Span) (id : ℕ) (st : List ℕ) (d : Depths) (l n : List ℕ)
    → Keeps st (write-of (screen-at st) r d id t l).listed.number (write_call r t id st d l n).number

abbrev pub HiddenKeeps : Type 0
HiddenKeeps =
    (r : ℕ) (t : Span) (id : ℕ) (st ms old : List ℕ) → Keeps st (hidden-of-row (screen-at st) r ms t id).number (hidden_call r t id st ms old).number

abbrev pub SkipKeeps : Type 0
SkipKeeps =
    (r : ℕ) (t : Span) (id : ℕ) (st rows old : List ℕ) → Keeps st (skip-of-row (screen-at st) r rows t id).number (skip_call r t id st rows old).number

abbrev pub LengthsKeeps : Type 0
LengthsKeeps = (r : ℕ) (t : Words) (st old : List ℕ) → Keeps st (lengths-of-row (screen-at st) r t).number (lengths_call r t st old).number

abbrev pub CmdKeeps : Type 0
CmdKeeps = (r : ℕ) (t : Words) (i : ℕ) (st old : List ℕ) → Keeps st (command-of-row (screen-at st) r t i).number (cmd_call r t i st old).number

abbrev pub DepthKeeps : Type 0
DepthKeeps = (r : ℕ) (t : Words) (i : ℕ) (st old : List ℕ) → Keeps st (depth-of-row (screen-at st) r t i).number (depth_call r t i st old).number

abbrev pub ProgressKeeps : Type 0
ProgressKeeps =
    (r : ℕ) (painting st old : List ℕ) → Keeps st (progress-of-row (screen-at st) r painting).number (progress_call r painting st old).number
