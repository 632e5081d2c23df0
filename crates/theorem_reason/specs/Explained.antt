-- What the call `why` answers, and what the tile receives by painting: the theorems about reasons at the lent words.
use Rattle.std.specs.Prelude.{ℕ, ◌/◌, ◌<◌, ◌≡◌, true, false, List}
use Rattle.rules.specs.Recording.{File}
use Rattle.rules.specs.Answers.{Done}
use Rattle.rules.specs.Boxes.{width, rows_of}
use Rattle.rules.specs.Plans.{bucket}
use Rattle.rules.specs.Setups.{Setup, frame}
use Rattle.rules.specs.Painting.{received}
use Rattle.rules_reason.specs.Reasons.{Asked, reason}
use Rattle.rules_picture.specs.Recorded.{history, Readable, said}
use Rattle.rules_picture.specs.Turns.{from}
use Rattle.screen.specs.Tables.{ScreenLent}
use Rattle.walk.specs.Recorded.{recorded}
use Rattle.refine_file.specs.Played.{place}
use Rattle.theorem_picture.specs.Reached.{begin-at}
use Rattle.theorem_picture.specs.Turns.{Turn, log}
use Rattle.theorem_picture.specs.Picture.{finished}
use Rattle.rules_reason.specs.Answers.{off-screen}
use Rattle.tile.specs.Explained.{explained-as, explained}
use Rattle.theorem_reason.specs.Reasons.{Painted}

-- A recording that is accepted, a row and a tile of its screen, which is that of the frame that its reset made: the call is done, leaves what the recording call leaves, and gives the reason of the
-- file's history
abbrev pub Explained-true : Type 0
Explained-true =
    (ws : File) (q : Setup) (l : ScreenLent) → (recorded ws q l).number ≡ Done → (r : Readable ws)
    → (row tile : ℕ) → off-screen (frame q (said r).viewport).viewport row tile ≡ false → (a : Asked)
    → explained ws q row tile a l ≡ explained-as Done (recorded ws q l).value (reason (bucket (frame q (said r).viewport)) (frame q (said r).viewport).viewport row tile (history (place q l) (said r)) a)

-- .. and where that screen is painted, by any calls, until the row has finished, the tile has received what the call's reason says
abbrev pub Explained-painted : Type 0
Explained-painted =
    (ws : File) (q : Setup) (l : ScreenLent) → (recorded ws q l).number ≡ Done → (r : Readable ws)
    → (row tile : ℕ) → row < rows_of (frame q (said r).viewport).viewport → tile < width (frame q (said r).viewport).viewport / 4
    → (ts : List Turn) → finished row ts (begin-at (recorded ws q l).value).value ≡ true → (a : Asked)
    → Painted a (explained ws q row tile a l).reason (received tile (from row (log ts (begin-at (recorded ws q l).value).value)))
