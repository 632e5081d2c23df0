-- Walks with their logs, for what is said of a recording's history: no rule reads a log.
use Rattle.std.specs.Prelude.{List, [], ◌∷◌, ◌++◌}
use Rattle.rules.specs.Answers.{Answer, answer}
use Rattle.rules.specs.Rows.{RowOps}
use Rattle.rules.specs.Plans.{Frame, Step}
use Rattle.rules.specs.Steps.{Screen, reset, call}
use Rattle.rules.specs.Recording.{Recording}
use Rattle.rules.specs.Walk.{walk-all}

-- A screen with the steps called so far, a refused one too: where the walk is done they are the recording's history.
pub record Logged (R : Type 0) : Type 0 where
  pub screen : Screen R
  pub log : List Step

module _ (R : Type 0) (ops : RowOps R) where
  unfoldable pub logged-call : Step → Logged R → Answer (Logged R)
  logged-call x s =
      let a = call R ops x s.screen in
      answer a.number (record { screen = a.value; log = s.log ++ (x ∷ []) })

  unfoldable pub walk-logged : R → Frame → Recording → Answer (Logged R)
  walk-logged fresh f r = walk-all (Logged R) logged-call r (record { screen = reset fresh f; log = [] })
