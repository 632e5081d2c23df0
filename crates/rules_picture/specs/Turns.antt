-- Rows painted by turns: painting steps called in any mixture of rows, and what each row gave, at the screen's own width.
use Rattle.std.specs.Prelude.{ℕ, ◌/◌, ◌<◌, ◌≡◌, Bool, true, ◌&&◌, cond, List, [], ◌∷◌, ◌++◌, length, get_or, eqb}
use Rattle.rules.specs.Lists.{some_of, such}
use Rattle.rules.specs.Answers.{Answer, Done}
use Rattle.rules.specs.Boxes.{width, rows_of}
use Rattle.rules.specs.Rows.{fresh-row}
use Rattle.rules.specs.Plans.{Frame, bucket, Step}
use Rattle.rules.specs.Steps.{reset}
use Rattle.rules.specs.Painting.{Piece, Painted, paint-step, received}
use Rattle.rules.specs.Plain.{plain}
use Rattle.rules.specs.Calls.{Canvas, bucket-on, Given, begin-call, painter-of, paint-call}
use Rattle.rules_picture.specs.Built.{Built}

-- one call of a painting step: any row, there or not, and room for any number of pieces
pub record Turn : Type 0 where
  pub row : ℕ
  pub room : ℕ

-- what a call gave: its row, its number, whether it said finished, its pieces; a refused call says no and gives no piece
pub record Gave : Type 0 where
  pub row : ℕ
  pub number : ℕ
  pub finished : Bool
  pub pieces : List Piece

-- the last canvas, and what each call gave, in the order of the calls
pub record Turned : Type 0 where
  pub canvas : Canvas
  pub log : List Gave

abbrev pub gave : ℕ → Answer (Given Painted) → Gave
gave r g = record { row = r; number = g.number; finished = g.value.result.finished; pieces = g.value.result.pieces }

-- the calls one after the other, each done or refused
unfoldable pub turns : List Turn → Canvas → Turned
turns [] k = record { canvas = k; log = [] }
turns (t ∷ ts) k =
    let g = paint-call t.row t.room k in
    let rest = turns ts g.value.canvas in
    record { canvas = rest.canvas; log = gave t.row g ∷ rest.log }

-- the pieces that the calls of row r gave, in order
unfoldable pub from : ℕ → List Gave → List Piece
from r [] = []
from r (g ∷ gs) = cond (eqb g.row r) g.pieces [] ++ from r gs

-- how many calls of row r were done
unfoldable pub steps_of : ℕ → List Gave → ℕ
steps_of r gs = length (such (λ (g : Gave). eqb g.row r && eqb g.number Done) gs)

-- a call of row r said finished
unfoldable pub said-finished : ℕ → List Gave → Bool
said-finished r gs = some_of (λ (g : Gave). eqb g.row r && g.finished) gs

-- what the next step of row r gives
abbrev pub next-step : Canvas → ℕ → Painted
next-step k r = paint-step (bucket-on k) k.screen.state.attrs (get_or k.screen.rows r fresh-row) (painter-of k r)

-- nothing is left of row r: its next step says finished
unfoldable pub has-finished : Canvas → ℕ → Bool
has-finished k r = (next-step k r).finished

-- painting begun on the canvas k, then the calls ts
abbrev pub painted : List Turn → Canvas → Turned
painted ts k = turns ts (begin-call k).value

-- Take any screen built from its reset by done steps xs, with painting freshly begun on it (so all layers are closed), and any
-- painting steps ts of its rows by turns, in any mixture. When a row has finished, each of its tiles has received exactly what plain
-- draw order gives it, in that order and at that nesting, less what came before the newest eligible solid segment that, once cut to
-- the screen, covers the tile's whole bucket, at the frame's own width; where there is none, it has received everything.
abbrev pub Picture : Type 0
Picture =
    (f : Frame) (xs : List Step) (k : Canvas) → Built xs (reset fresh-row f) k.screen → (begin-call k).number ≡ Done
    → (ts : List Turn) (r t : ℕ) → r < rows_of f.viewport → t < width f.viewport / 4
    → has-finished (painted ts k).canvas r ≡ true
    → received t (from r (painted ts k).log) ≡ plain (bucket f) f.viewport r t xs
