-- Editing one line of the screen, at the lent words: what two recordings that differ in segments outside one row leave of that row.
use Rattle.std.specs.Prelude.{ℕ, ◌+◌, ◌/◌, ◌<◌, ◌≡◌, true, List}
use Rattle.rules.specs.Recording.{File}
use Rattle.rules.specs.Answers.{Done}
use Rattle.rules.specs.Boxes.{rows_of}
use Rattle.rules.specs.Plain.{plain}
use Rattle.rules.specs.Plans.{Frame, bucket}
use Rattle.rules.specs.Setups.{Setup, frame}
use Rattle.row.specs.Arena.{sizes, row_at}
use Rattle.screen.specs.Tables.{ScreenLent}
use Rattle.walk.specs.Steps.{rows_words}
use Rattle.walk.specs.Recorded.{recorded}
use Rattle.refine_file.specs.Played.{place}
use Rattle.rules_picture.specs.Turns.{from}
use Rattle.rules_picture.specs.Recorded.{history, Readable, said}
use Rattle.rules_picture.specs.Edited.{EditedFile}
use Rattle.theorem_picture.specs.Reached.{begin-at}
use Rattle.theorem_picture.specs.Rows.{Call, call-log, row-finished}

-- What the words of two screens of the frame f have in common: of row i the render words, the depth fill words and the record; the screen's numbers, the next id
-- among them; every word of the layers, the opacities and the attributes.
pub record SameLine (f : Frame) (i : ℕ) (l m : ScreenLent) : Type 0 where
  pub row : row_at (sizes f.c f.d) i (rows_words l.tables) ≡ row_at (sizes f.c f.d) i (rows_words m.tables)
  pub screen : l.screen ≡ m.screen
  pub layers : l.tables.layers ≡ m.tables.layers
  pub opacities : l.tables.opacities ≡ m.tables.opacities
  pub paint-attrs : l.tables.paint-attrs ≡ m.tables.paint-attrs
  pub layer-attrs : l.tables.layer-attrs ≡ m.tables.layer-attrs
  pub filter-paints : l.tables.filter-paints ≡ m.tables.filter-paints

-- The frame of a recording that is played in the setup q.
abbrev pub frame-in : Setup → {ws : File} → Readable ws → Frame
frame-in q x = frame q (said x).viewport

-- Two recordings are played in one setup into any tables, and both are accepted. They are edits of one another outside row i of the screen: outside that row of
-- the scene, which is so many rows further on as the viewport's first row says.
pub record EditedPair (ws vs : File) (q : Setup) (i : ℕ) (l m : ScreenLent) : Type 0 where
  pub one : Readable ws
  pub other : Readable vs
  pub one_done : (recorded ws q l).number ≡ Done
  pub other_done : (recorded vs q m).number ≡ Done
  pub there : i < rows_of (frame-in q one).viewport
  pub edited : EditedFile (i + (frame-in q one).viewport.y0 / 4) (said one) (said other)

-- Then they leave that row as it was, ..
abbrev pub LineWords : Type 0
LineWords =
    (ws vs : File) (q : Setup) (i : ℕ) (l m : ScreenLent) (e : EditedPair ws vs q i l m)
    → SameLine (frame-in q e.one) i (recorded ws q l).value (recorded vs q m).value

-- .. painting gives the same pieces of it, by any calls of painting steps and rows, in any mixture, after which it has finished, on either side its own, ..
abbrev pub LinePieces : Type 0
LinePieces =
    (ws vs : File) (q : Setup) (i : ℕ) (l m : ScreenLent) → EditedPair ws vs q i l m
    → (cs ds : List Call)
    → row-finished i cs (begin-at (recorded ws q l).value).value ≡ true
    → row-finished i ds (begin-at (recorded vs q m).value).value ≡ true
    → from i (call-log cs (begin-at (recorded ws q l).value).value) ≡ from i (call-log ds (begin-at (recorded vs q m).value).value)

-- .. and each of its tiles has the same list in plain draw order.
abbrev pub LineListed : Type 0
LineListed =
    (ws vs : File) (q : Setup) (i : ℕ) (l m : ScreenLent) (e : EditedPair ws vs q i l m) (t : ℕ)
    → plain (bucket (frame-in q e.one)) (frame-in q e.one).viewport i t (history (place q l) (said e.one))
    ≡ plain (bucket (frame-in q e.one)) (frame-in q e.one).viewport i t (history (place q m) (said e.other))
