-- ScreenLent words that hold a canvas of the rules.
use Rattle.std.specs.Prelude.{◌≡◌, Bool, true, false, List}
use Rattle.rules.specs.Rows.{Row, fresh-row}
use Rattle.rules.specs.Plans.{Frame, Step}
use Rattle.rules.specs.Steps.{Screen, reset}
use Rattle.rules.specs.Calls.{Canvas}
use Rattle.screen.specs.Tables.{ScreenLent}
use Rattle.refine_steps.specs.Lent.{lent_of}
use Rattle.refine_paint.specs.Canvases.{depth-of, painting-of, WholeCanvas}
use Rattle.rules_picture.specs.Built.{Built}
use Rattle.rules_picture.specs.Compacted.{Kept-up}

-- all the words of a canvas
abbrev pub canvas-words : Canvas → ScreenLent
canvas-words k = lent_of k.screen k.begun (depth-of k.painters) (painting-of k.painters)

-- done steps that lead from one screen to another; if c is true, rows may have been compacted between them
abbrev pub BuiltBy : Bool → List Step → Screen Row → Screen Row → Type 0
BuiltBy true = Kept-up
BuiltBy false = Built

-- l holds a whole canvas, whose screen the steps xs have built so from the reset to f
pub record StandsBy (c : Bool) (f : Frame) (xs : List Step) (l : ScreenLent) : Type 0 where
  pub canvas : Canvas
  pub whole : WholeCanvas canvas
  pub built : BuiltBy c xs (reset fresh-row f) canvas.screen
  pub same : l ≡ canvas-words canvas

abbrev pub Stands : Frame → List Step → ScreenLent → Type 0
Stands = StandsBy true

-- .. by the steps alone
abbrev pub StandsAlone : Frame → List Step → ScreenLent → Type 0
StandsAlone = StandsBy false

-- words that the steps alone have built are such words, of the same canvas
abbrev pub AloneStands : Type 0
AloneStands = (f : Frame) (xs : List Step) (l : ScreenLent) (s : StandsAlone f xs l) → (t : Stands f xs l) × (t.canvas ≡ s.canvas)
