-- Words at which a row waits at its first step, and what its call says.
use Rattle.std.specs.Prelude.{ℕ, ◌≤◌, ◌<◌, ◌≡◌, true, length}
use Rattle.rules.specs.Rows.{Row}
use Rattle.rules.specs.Plans.{buckets-across}
use Rattle.rules.specs.Steps.{Screen}
use Rattle.rules.specs.Painting.{begin}
use Rattle.rules.specs.Calls.{Canvas, paints-on, painter-of}
use Rattle.screen.specs.Tables.{ScreenLent}
use Rattle.paint.specs.Painting.{StepOut}
use Rattle.refine_paint.specs.Canvases.{WholeCanvas}
use Rattle.text.specs.Pieces.{most-pieces}
use Rattle.theorem_picture.specs.Standing.{canvas-words}

-- Words at which row r stands at its first step, painting having begun, on the screen s.
pub record Waits (s : Screen Row) (r : ℕ) (m : ScreenLent) : Type 0 where
  pub canvas : Canvas
  pub whole : WholeCanvas canvas
  pub screen : canvas.screen ≡ s
  pub goes_on : paints-on canvas ≡ true
  pub there : r < length canvas.screen.rows
  pub fresh : painter-of canvas r ≡ begin (buckets-across canvas.screen.state.frame)
  pub same : m ≡ canvas-words canvas

-- The call on a row that waits says finished, is not refused, and lists no more pieces than a row can have.
pub record Whole (o : StepOut) : Type 0 where
  pub number : o.answer.number ≡ 0
  pub finished : o.answer.finished ≡ true
  pub pieces : o.answer.pieces ≤ most-pieces
