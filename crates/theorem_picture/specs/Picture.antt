-- The picture, about the calls as they are.
use Rattle.std.specs.Prelude.{ℕ, ◌/◌, ◌<◌, ◌≡◌, Bool, true, ◌||◌, List}
use Rattle.rules.specs.Answers.{Done}
use Rattle.rules.specs.Boxes.{width, rows_of}
use Rattle.rules.specs.Plans.{Frame, bucket, Step}
use Rattle.rules.specs.Painting.{received}
use Rattle.rules.specs.Plain.{plain}
use Rattle.screen.specs.Tables.{ScreenLent}
use Rattle.rules_picture.specs.Turns.{from, said-finished}
use Rattle.theorem_picture.specs.Reached.{Reached, begin-at}
use Rattle.theorem_picture.specs.Turns.{Turn, turned, log, finished-at}

-- row r has finished after the calls ts on the words l: one of its calls said so, or its next one does
abbrev pub finished : ℕ → List Turn → ScreenLent → Bool
finished r ts l = said-finished r (log ts l) || finished-at (turned ts l) r

-- Take any screen built from its reset by done steps xs, each call given the words that the last one left, with painting freshly begun
-- (so all layers are closed), and nothing but painting steps ts of its rows from then on, by turns, in any mixture, into lists of any
-- length. When row r has finished, each of its tiles has received, by the words of its calls' lists, exactly what plain draw order gives
-- it, in that order and at that nesting, less what came before the newest eligible solid segment that, once cut to the screen, covers
-- the tile's whole bucket; where there is none, it has received everything.
abbrev pub Picture : Type 0
Picture =
    (f : Frame) (xs : List Step) (l : ScreenLent) → Reached f xs l → (begin-at l).number ≡ Done
    → (ts : List Turn) (r t : ℕ) → r < rows_of f.viewport → t < width f.viewport / 4
    → finished r ts (begin-at l).value ≡ true
    → received t (from r (log ts (begin-at l).value)) ≡ plain (bucket f) f.viewport r t xs
