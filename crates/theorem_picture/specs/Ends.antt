-- Painting ends: there are schedules after which every row has finished, so the picture speaks of every screen; and what a row's call does.
use Rattle.std.specs.Prelude.{ℕ, ◌+◌, ◌≤◌, ◌<◌, ◌≡◌, Bool, true, List, length, get_or}
use Rattle.rules.specs.Answers.{Done}
use Rattle.rules.specs.Boxes.{rows_of}
use Rattle.rules.specs.Rows.{fresh-row}
use Rattle.rules.specs.Plans.{Frame, Step}
use Rattle.rules.specs.Calls.{Canvas, begin-call}
use Rattle.screen.specs.Tables.{ScreenLent}
use Rattle.rules_picture.specs.Turns as rule
use Rattle.rules_picture.specs.Turns.{turns, steps_of, has-finished, painted}
use Rattle.theorem_picture.specs.Reached.{ReachedBy, Reached, begin-at, paint-out}
use Rattle.theorem_picture.specs.Turns.{Turn}
use Rattle.theorem_picture.specs.Picture.{finished}
use Rattle.theorem_picture.specs.Rows.{RowTurns, Call, CallTurns, row_out, row_at}

-- About the rules: a schedule by which every row finishes, ..
abbrev pub RulesFinish : Type 0
RulesFinish =
    (k : Canvas) → (begin-call k).number ≡ Done
    → (ts : List rule.Turn) × ((r : ℕ) → r < length k.screen.rows → has-finished (painted ts k).canvas r ≡ true)

-- .. and as many done steps as a row has depth fills and commands finish it, whatever else is called between them.
abbrev pub StepsEnough : Type 0
StepsEnough =
    (ts : List rule.Turn) (k : Canvas) (r : ℕ) → r < length k.painters
    → length (get_or k.screen.rows r fresh-row).fills + length (get_or k.screen.rows r fresh-row).commands ≤ steps_of r (turns ts k).log
    → has-finished (turns ts k).canvas r ≡ true

-- At the words: a schedule of painting steps by which every row finishes.
abbrev pub WordsFinish : Type 0
WordsFinish =
    (f : Frame) (xs : List Step) (l : ScreenLent) → Reached f xs l → (begin-at l).number ≡ Done
    → (ts : List Turn) × ((r : ℕ) → r < rows_of f.viewport → finished r ts (begin-at l).value ≡ true)

-- While painting goes on, one call of `paint_row` into any list that is long enough says finished.
abbrev pub RowsFinish : Type 0
RowsFinish =
    (f : Frame) (xs : List Step) (l : ScreenLent) → Reached f xs l → l.screen.painting ≡ true → (r : ℕ) → r < rows_of f.viewport
    → (n : ℕ) × ((list : List ℕ) → n ≤ length list → (row_out r list l).answer.finished ≡ true)

-- A call of `paint_row` at any words is painting steps of its row, with the number of one step; so is any mixture of both calls, but for the number.
pub record RowSteps (l : ScreenLent) : Type 0 where
  pub turns : (i : ℕ) (list : List ℕ) → RowTurns i list l
  pub number : (i : ℕ) (list : List ℕ) → (row_out i list l).answer.number ≡ (paint-out i list l).answer.number
  pub mixed : (cs : List Call) → CallTurns cs l

abbrev pub RowsAreSteps : Type 0
RowsAreSteps = (l : ScreenLent) → RowSteps l

-- It leaves reached words reached.
abbrev pub RowReached : Type 0
RowReached = (c : Bool) (f : Frame) (xs : List Step) (l : ScreenLent) (i : ℕ) (list : List ℕ) → ReachedBy c f xs l → ReachedBy c f xs (row_at i list l)
