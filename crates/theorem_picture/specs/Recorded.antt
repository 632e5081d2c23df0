-- What a recording call leaves at the words l.
use Rattle.std.specs.Prelude.{ℕ, ◌≤◌, ◌<◌, ◌/◌, ◌≡◌, true, List, Some}
use Rattle.rules.specs.Answers.{Answer, answer, Done, BadForm}
use Rattle.rules.specs.Boxes.{width, rows_of}
use Rattle.rules.specs.Rows.{Row}
use Rattle.rules.specs.Plans.{bucket}
use Rattle.rules.specs.Steps.{Screen}
use Rattle.rules.specs.Recording.{parsed, recording, File}
use Rattle.rules.specs.Setups.{Setup, frame}
use Rattle.rules.specs.Walk.{Place, frame-of}
use Rattle.rules.specs.Painting.{received}
use Rattle.rules.specs.Plain.{plain}
use Rattle.rules.specs.Calls.{Canvas, begin-call, record-call}
use Rattle.screen.specs.Judging.{good-tables, arenas}
use Rattle.screen.specs.Tables.{lengths, ScreenLent, reset_to}
use Rattle.walk.specs.Recorded.{recorded}
use Rattle.refine_paint.specs.Canvases.{WholeCanvas}
use Rattle.refine_file.specs.Played.{place}
use Rattle.rules_picture.specs.Turns.{Turn, from, has-finished, painted}
use Rattle.rules_picture.specs.Recorded as rule
use Rattle.rules_picture.specs.Recorded.{history, Readable, said, LeftReset}
use Rattle.theorem_picture.specs.Reached.{ReachedAlone, begin-at}
use Rattle.theorem_picture.specs.Standing.{canvas-words}

-- accepted: words that the steps of the file's walk reach from the reset to its frame; no layer is open there, so that painting can begin
pub record Accepted (p : Place) (ws : File) (m : ScreenLent) : Type 0 where
  pub words : Readable ws
  pub reached : ReachedAlone (frame-of p (said words)) (history p (said words)) m
  pub begins : (begin-at m).number ≡ Done

-- refused: the words as they were; or, with a number past 3, those of the reset to the file's frame
pub data Refused (q : Setup) (ws : File) (l : ScreenLent) (a : Answer ScreenLent) : Type 0 where
  kept : a.value ≡ l → Refused q ws l a
  emptied : (words : Readable ws) → BadForm < a.number → (reset_to (frame q (said words).viewport) l).number ≡ Done
      → a.value ≡ (reset_to (frame q (said words).viewport) l).value → Refused q ws l a

-- An accepted recording leaves words that the steps of its walk reach, and painting can begin there: `Picture` speaks of it.
abbrev pub RecordingAccepted : Type 0
RecordingAccepted = (ws : File) (q : Setup) (l : ScreenLent) → (recorded ws q l).number ≡ Done → Accepted (place q l) ws (recorded ws q l).value

-- A refused one leaves the words as they were, or those of the file's reset.
abbrev pub RecordingRefused : Type 0
RecordingRefused = (ws : File) (q : Setup) (l : ScreenLent) → ((recorded ws q l).number ≡ Done → ⊥) → Refused q ws l (recorded ws q l)

-- With 1, 2 or 3 it leaves them as they were.
abbrev pub RecordingEarly : Type 0
RecordingEarly = (ws : File) (q : Setup) (l : ScreenLent) → 0 < (recorded ws q l).number → (recorded ws q l).number ≤ 3 → (recorded ws q l).value ≡ l

-- About the rules: an accepted recording leaves what its history builds, with no layer open; one refused with 1, 2 or 3 leaves the screen as it
-- was, and one refused with another number leaves it freshly reset.
pub record Played (p : Place) (old : Screen Row) (ws : File) : Type 0 where
  pub accepted : (rule.played p old ws).number ≡ Done → rule.Accepted p ws (rule.played p old ws).value
  pub early : 0 < (rule.played p old ws).number → (rule.played p old ws).number ≤ 3 → (rule.played p old ws).value ≡ old
  pub late : 3 < (rule.played p old ws).number → LeftReset p ws (rule.played p old ws).value

abbrev pub RulesPlayed : Type 0
RulesPlayed = (p : Place) (old : Screen Row) (ws : File) → Played p old ws

-- .. and the picture speaks of every accepted one: on a canvas of its screen painting begins, and a finished row has given each of its tiles what
-- plain draw order gives it of the recording's history.
abbrev pub RulesPicture : Type 0
RulesPicture =
    (p : Place) (ws : File) (u : Screen Row) (a : rule.Accepted p ws u) (k : Canvas) → k.screen ≡ u
    → ((begin-call k).number ≡ Done)
    × ((ts : List Turn) (r t : ℕ) → r < rows_of (frame-of p (said a.words)).viewport → t < width (frame-of p (said a.words)).viewport / 4
    → has-finished (painted ts k).canvas r ≡ true
    → received t (from r (painted ts k).log) ≡ plain (bucket (frame-of p (said a.words))) (frame-of p (said a.words)).viewport r t (history p (said a.words)))

-- At the words of a canvas a recording call is the rules', where the tables beside the arenas are as long as the frame asks: its number and
-- every word; and a whole canvas stays whole.
pub record CanvasRecorded (q : Setup) (k : Canvas) (ws : File) : Type 0 where
  pub words : recorded ws q (canvas-words k)
      ≡ answer (record-call q (arenas (lengths (canvas-words k).tables)) ws k).number (canvas-words (record-call q (arenas (lengths (canvas-words k).tables)) ws k).value)
  pub whole : WholeCanvas k → WholeCanvas (record-call q (arenas (lengths (canvas-words k).tables)) ws k).value

abbrev pub RecordingRules : Type 0
RecordingRules =
    (ws : File) (q : Setup) (k : Canvas)
    → ((ss : List (List (List ℕ))) → parsed ws ≡ Some ss → good-tables (rows_of (frame q (recording ss).viewport).viewport) (lengths (canvas-words k).tables) ≡ true)
    → CanvasRecorded q k ws
