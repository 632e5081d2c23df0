-- Editing one line of the screen, by the words that a host lends: what two recordings that differ in segments outside one row leave of that row.
use Rattle.std.specs.Prelude.{ℕ, ◌+◌, ◌/◌, ◌<◌, ◌≡◌, true, List}
use Rattle.rules.specs.Recording.{File}
use Rattle.rules.specs.Answers.{Done}
use Rattle.rules.specs.Boxes.{rows_of}
use Rattle.rules.specs.Plans.{Frame}
use Rattle.rules.specs.Setups.{Setup}
use Rattle.row.specs.Arena.{sizes, row_at}
use Rattle.walk.specs.Steps.{rows_words}
use Rattle.rules_picture.specs.Turns.{from}
use Rattle.rules_picture.specs.Recorded.{Readable, said}
use Rattle.rules_picture.specs.Edited.{EditedFile}
use Rattle.theorem_picture.specs.Edited.{frame-in}
use Rattle.host.specs.declared.state.SetupWords.{SetupWords}
use Rattle.host.specs.Asked.{FileWords}
use Rattle.theorem_border.specs.Hosted.{Host, Asks, Says, Call, recording-at, begin-at}
use Rattle.theorem_border.specs.Border.{log, finished}

-- What two hosts' words have in common, of screens of the frame f: of row i the render words, the depth fill words and the record; the state's words, the next id
-- among them; every word of the layers, the opacities and the attributes.
pub record SameLine (f : Frame) (i : ℕ) (h k : Host) : Type 0 where
  pub row : row_at (sizes f.c f.d) i (rows_words h.tables) ≡ row_at (sizes f.c f.d) i (rows_words k.tables)
  pub state : h.state ≡ k.state
  pub layers : h.tables.layers ≡ k.tables.layers
  pub opacities : h.tables.opacities ≡ k.tables.opacities
  pub paint-attrs : h.tables.paint-attrs ≡ k.tables.paint-attrs
  pub layer-attrs : h.tables.layer-attrs ≡ k.tables.layer-attrs
  pub filter-paints : h.tables.filter-paints ≡ k.tables.filter-paints

-- `coarse_bucket_recording` of two files, each of either edition, into any words, asked for one setup, answers 0 both times. They are edits of one another outside row i of the screen:
-- outside that row of the scene, which is so many rows further on as the viewport's first row says.
pub record EditedPair (f g : FileWords) (w : SetupWords) (q : Setup) (i : ℕ) (h k : Host) : Type 0 where
  pub asks : Asks w q
  pub file : File
  pub edit : File
  pub says_one : Says f file
  pub says_other : Says g edit
  pub one : Readable file
  pub other : Readable edit
  pub one_done : (recording-at f w h).number ≡ Done
  pub other_done : (recording-at g w k).number ≡ Done
  pub there : i < rows_of (frame-in q one).viewport
  pub edited : EditedFile (i + (frame-in q one).viewport.y0 / 4) (said one) (said other)

-- Then that row is the same, ..
abbrev pub LineWords : Type 0
LineWords =
    (f g : FileWords) (w : SetupWords) (q : Setup) (i : ℕ) (h k : Host) (e : EditedPair f g w q i h k)
    → SameLine (frame-in q e.one) i (recording-at f w h).value (recording-at g w k).value

-- .. and painting gives the same pieces of it, by any painting calls after which it has finished, on either side its own.
abbrev pub LinePieces : Type 0
LinePieces =
    (f g : FileWords) (w : SetupWords) (q : Setup) (i : ℕ) (h k : Host) → EditedPair f g w q i h k
    → (cs ds : List Call)
    → finished i cs (begin-at (recording-at f w h).value).value ≡ true
    → finished i ds (begin-at (recording-at g w k).value).value ≡ true
    → from i (log cs (begin-at (recording-at f w h).value).value) ≡ from i (log ds (begin-at (recording-at g w k).value).value)
