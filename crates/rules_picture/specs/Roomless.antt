-- Where the walk of the rules' own rows is done, so is that with room for everything, by the same steps.
use Rattle.std.specs.Prelude.{◌≡◌}
use Rattle.rules.specs.Answers.{Done}
use Rattle.rules.specs.Rows.{Row, row-ops, fresh-row}
use Rattle.rules.specs.Plans.{Frame}
use Rattle.rules.specs.Recording.{Recording}
use Rattle.rules.specs.Logged.{walk-logged}
use Rattle.rules.specs.Roomless.{roomless}

abbrev pub Roomless-done : Type 0
Roomless-done =
    (f : Frame) (r : Recording) → (walk-logged Row row-ops fresh-row f r).number ≡ Done
    → ((roomless f r).number ≡ Done) × ((roomless f r).value.log ≡ (walk-logged Row row-ops fresh-row f r).value.log)
