-- What an accepted recording leaves.
use Rattle.rules.specs.Recording.{File}
use Rattle.rules.specs.Rows.{Row}
use Rattle.rules.specs.Setups.{Setup, frame}
use Rattle.rules.specs.Steps.{Screen}
use Rattle.rules_picture.specs.Recorded.{history, Readable, said}
use Rattle.rules_figures.specs.Accounted.{Left}
use Rattle.screen.specs.Tables.{ScreenLent}
use Rattle.walk.specs.Recorded.{recorded}
use Rattle.refine_steps.specs.Lent.{Holds}
use Rattle.refine_file.specs.Played.{place}

-- bucketed into the words m: the words of the rules' screen that its history builds from its reset
pub record Leaves (f : File) (q : Setup) (m : ScreenLent) (r : Readable f) : Type 0 where
  pub screen : Screen Row
  pub left : Left (frame q (said r).viewport) (history (place q m) (said r)) screen
  pub holds : Holds screen (recorded f q m).value
