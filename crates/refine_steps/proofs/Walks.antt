-- The walk of a recording at the words follows the walk of the rules' screens. Assumes nothing.
use Rattle.rules.specs.Rows.{Row, row-ops}
use Rattle.rules.specs.Steps as rule
use Rattle.rules.specs.Steps.{call}
use Rattle.rules.specs.Recording.{Recording}
use Rattle.rules.specs.Walk.{walk-all}
use Rattle.rules.proofs.Follows.{Follow, walk-follows}
use Rattle.screen.specs.Tables.{ScreenLent}
use Rattle.walk.specs.Steps.{call_at}
use Rattle.refine_steps.proofs.Refined.{Refines, step-refines}

pub walk-refines : (r : Recording) → Follow Refines (walk-all (rule.Screen Row) (call Row row-ops) r) (walk-all ScreenLent call_at r)
walk-refines = walk-follows Refines (call Row row-ops) call_at (λ x s l h. let a = step-refines x s l h in record { number = a.number; value = λ e. a.value })
