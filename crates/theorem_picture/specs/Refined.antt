-- The refinement below the calls: rows, steps, walks and files at the words of the rules' screens, and what holds of every canvas.
use Rattle.std.specs.Prelude.{ℕ, suc, ◌≤◌, ◌≡◌, true, Bool, List, [], ◌∷◌, map, length, Some}
use Rattle.rules.specs.Answers.{Answer, Done}
use Rattle.rules.specs.Boxes.{good_viewport, rows_in, rows_of}
use Rattle.rules.specs.Spans.{Span}
use Rattle.rules.specs.Rows.{Row, row-ops, fresh-row}
use Rattle.rules.specs.Plans.{Frame, Layer, Step, Act, paint, opaque, touch, close, pop, Put}
use Rattle.rules.specs.Steps.{Screen, do-puts, touched, reset, call}
use Rattle.rules.specs.Recording.{Recording, parsed, recording, File}
use Rattle.rules.specs.Setups.{Setup, frame}
use Rattle.rules.specs.Walk.{good-room, walk-all, play}
use Rattle.rules.specs.Calls.{Canvas, fresh-canvas, step_call, begin-call, paint-call, write-call}
use Rattle.rules.specs.Compacted.{compact-call}
use Rattle.row.specs.Words.{Words, word-ops}
use Rattle.screen.specs.Depths.{Depths}
use Rattle.screen.specs.Judging.{judged_reset, good-tables}
use Rattle.screen.specs.Tables.{lengths, ScreenLent, reset_to}
use Rattle.pop.specs.Closing.{touched-in}
use Rattle.walk.specs.Steps.{call_at}
use Rattle.walk.specs.Recorded.{recorded}
use Rattle.refine_row.specs.Encode.{encode, Fine}
use Rattle.refine_layers.specs.Touched.{Reaching}
use Rattle.refine_steps.specs.Sound.{Sound}
use Rattle.refine_steps.specs.Lent.{lent_of, answer-of, Holds}
use Rattle.refine_paint.specs.Canvases.{WholeCanvas}
use Rattle.refine_file.specs.Played.{place, Plays}

-- both ends at tile 8,192 at the latest
abbrev pub Bounded : Span → Type 0
Bounded s = (s.first ≤ 8192) × (s.end ≤ 8192)

abbrev pub BoundedAct : Act → Type 0
BoundedAct (paint s a i) = Bounded s
BoundedAct (opaque s i id) = Bounded s
BoundedAct touch = Unit {0}
BoundedAct (close s a i) = Bounded s
BoundedAct pop = Unit {0}

abbrev pub BoundedPuts : List Put → Type 0
BoundedPuts [] = Unit {0}
BoundedPuts (p ∷ ps) = BoundedAct p.act × BoundedPuts ps

abbrev pub FineRows : List Row → Type 0
FineRows [] = Unit {0}
FineRows (r ∷ rs) = Fine r × FineRows rs

-- The words of the rows that puts make of the rules' rows are what the same puts make of the rows' words; c and d are the room of a row.
abbrev pub RowsRefined : Type 0
RowsRefined =
    (c d v n : ℕ) → n ≤ 16 → (ps : List Put) → BoundedPuts ps → (rows : List Row) → FineRows rows
    → (map (encode c d) (do-puts Row row-ops v n ps rows) ≡ do-puts Words word-ops v n ps (map (encode c d) rows)) × FineRows (do-puts Row row-ops v n ps rows)

-- The rows that a pop finds by their levels are those among the rows of the innermost layer's box (reading 38).
abbrev pub TouchedOwn : Type 0
TouchedOwn =
    (c d : ℕ) (s : Screen Row) (l : Layer) (ls : List Layer) → Reaching s → s.state.layers ≡ l ∷ ls
    → touched Words word-ops (suc (length ls)) 0 (map (encode c d) s.rows) ≡ touched-in (suc (length ls)) (map (encode c d) s.rows) (rows_in l.bounds)

-- Every step, refused or done: at the words of a sound screen it has the rules' number, and leaves the words of the rules' screen.
abbrev pub StepRefined : Type 0
StepRefined =
    (x : Step) (s : Screen Row) → Sound s → (b : Bool) (depth : Depths) (painting : List ℕ)
    → call_at x (lent_of s b depth painting) ≡ answer-of (call Row row-ops x s) b depth painting

-- a sound screen, and words that hold it
pub record Refined (s : Screen Row) (l : ScreenLent) : Type 0 where
  pub sound : Sound s
  pub holds : Holds s l

-- A done reset holds the rules' fresh screen.
abbrev pub ResetRefined : Type 0
ResetRefined =
    (f : Frame) (l : ScreenLent) → judged_reset f (lengths l.tables) ≡ Done
    → ((reset_to f l).number ≡ Done) × Refined (reset fresh-row f) (reset_to f l).value

-- Every step, refused or done, has the rules' number and keeps what it holds; ..
pub record StepAgrees (a : Answer (Screen Row)) (w : Answer ScreenLent) : Type 0 where
  pub number : w.number ≡ a.number
  pub value : Refined a.value w.value

abbrev pub StepsAgree : Type 0
StepsAgree = (x : Step) (s : Screen Row) (l : ScreenLent) → Refined s l → StepAgrees (call Row row-ops x s) (call_at x l)

-- .. so does every walk over a recording, where it is done.
pub record WalkAgrees (a : Answer (Screen Row)) (w : Answer ScreenLent) : Type 0 where
  pub number : w.number ≡ a.number
  pub value : a.number ≡ Done → Refined a.value w.value

abbrev pub WalksAgree : Type 0
WalksAgree =
    (r : Recording) (s : Screen Row) (l : ScreenLent) → Refined s l
    → WalkAgrees (walk-all (Screen Row) (call Row row-ops) r s) (walk-all ScreenLent call_at r l)

-- A recording call has the number of the rules' play and leaves words that hold its screen, or alters nothing. The tables beside the arenas are
-- as long as the frame asks.
abbrev pub FilePlays : Type 0
FilePlays =
    (ws : File) (q : Setup) (l : ScreenLent) (old : Screen Row)
    → ((ss : List (List (List ℕ))) → parsed ws ≡ Some ss → good-tables (rows_of (frame q (recording ss).viewport).viewport) (lengths l.tables) ≡ true)
    → Plays Refined old l (play (Screen Row) (call Row row-ops) (reset fresh-row) (place q l) old ws) (recorded ws q l)

-- A canvas that a reset and calls make is whole.
pub record WholeKept : Type 0 where
  pub resets : (f : Frame) → good_viewport f.viewport ≡ true → good-room f.c ≡ true → good-room f.d ≡ true → WholeCanvas (fresh-canvas f)
  pub steps : (x : Step) (k : Canvas) → WholeCanvas k → WholeCanvas (step_call x k).value
  pub begins : (k : Canvas) → WholeCanvas k → WholeCanvas (begin-call k).value
  pub paints : (k : Canvas) → WholeCanvas k → (i room : ℕ) → WholeCanvas (paint-call i room k).value.canvas
  pub writes : (k : Canvas) → WholeCanvas k → (i id : ℕ) (t : Span) (room : ℕ) → WholeCanvas (write-call id i room t k).value.canvas
  pub compacts : (k : Canvas) → WholeCanvas k → (i : ℕ) → WholeCanvas (compact-call i k).value
