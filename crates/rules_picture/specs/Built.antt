-- A screen of the rules built by done steps, at its own width.
use Rattle.std.specs.Prelude.{◌≡◌, List, [], ◌∷◌}
use Rattle.rules.specs.Answers.{Done}
use Rattle.rules.specs.Rows.{Row, row-ops}
use Rattle.rules.specs.Plans.{Step}
use Rattle.rules.specs.Steps.{Screen, call}

-- the steps xs, each done on what the one before gave, lead from s to u
pub data Built : List Step → Screen Row → Screen Row → Type 0 where
  no_step : {s : Screen Row} → Built [] s s
  then : {x : Step} {xs : List Step} {s u : Screen Row} → (call Row row-ops x s).number ≡ Done → Built xs (call Row row-ops x s).value u → Built (x ∷ xs) s u
