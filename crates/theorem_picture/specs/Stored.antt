-- What is read of a row without painting it: its stored commands and depth fills are the rules' row's, each under its number and none past the last, and its
-- progress is that of the rules' painter.
use Rattle.std.specs.Prelude.{ℕ, ◌≤◌, ◌<◌, ◌≡◌, length, get_or, None, Some, List}
use Rattle.rules.specs.Answers.{answer, Done, BadRun}
use Rattle.rules.specs.Commands.{pop-buf}
use Rattle.rules.specs.Rows.{Row, fresh-row}
use Rattle.rules.specs.Plans.{Frame, Step}
use Rattle.rules.specs.Painting.{no-fill}
use Rattle.rules.specs.Calls.{Canvas, painter-of}
use Rattle.screen.specs.Tables.{ScreenLent}
use Rattle.walk.specs.Steps.{rows_words}
use Rattle.paint.specs.StoredCmds.{lengths, gone, lengths-of-row, command-of-row, depth-of-row, progress-of-row}
use Rattle.refine_paint.specs.Canvases.{WholeCanvas}
use Rattle.theorem_picture.specs.Standing.{canvas-words, Stands}

abbrev pub stored-row : Canvas → ℕ → Row
stored-row k r = get_or k.screen.rows r fresh-row

-- at the words l, of row r of the canvas k
pub record RowRead (k : Canvas) (r : ℕ) (l : ScreenLent) : Type 0 where
  pub counts : lengths-of-row l.screen r (rows_words l.tables) ≡ answer Done (lengths (length (stored-row k r).commands) (length (stored-row k r).fills))
  pub command : (i : ℕ) → i < length (stored-row k r).commands
      → command-of-row l.screen r (rows_words l.tables) i ≡ answer Done (Some (get_or (stored-row k r).commands i pop-buf))
  pub past-commands : (i : ℕ) → length (stored-row k r).commands ≤ i → command-of-row l.screen r (rows_words l.tables) i ≡ answer BadRun None
  pub fill : (i : ℕ) → i < length (stored-row k r).fills
      → depth-of-row l.screen r (rows_words l.tables) i ≡ answer Done (Some (get_or (stored-row k r).fills i no-fill))
  pub past-fills : (i : ℕ) → length (stored-row k r).fills ≤ i → depth-of-row l.screen r (rows_words l.tables) i ≡ answer BadRun None
  pub progress : progress-of-row l.screen r l.tables.painting ≡ answer Done (gone (painter-of k r).steps (painter-of k r).nesting)

-- So it is of each row at the words of every whole canvas of the rules, ..
abbrev pub CanvasStored : Type 0
CanvasStored = (k : Canvas) → WholeCanvas k → (r : ℕ) → r < length k.screen.rows → RowRead k r (canvas-words k)

-- .. and at all reached words, for the canvas that stands there.
abbrev pub StandsStored : Type 0
StandsStored = (f : Frame) (xs : List Step) (l : ScreenLent) (s : Stands f xs l) → (r : ℕ) → r < length s.canvas.screen.rows → RowRead s.canvas r l
