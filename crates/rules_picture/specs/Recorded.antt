-- What playing a recording leaves, told by the steps of its walk.
use Rattle.std.specs.Prelude.{ℕ, ◌≡◌, List, []}
use Rattle.std.specs.Prelude.{Some}
use Rattle.rules.specs.Answers.{Answer}
use Rattle.rules.specs.Rows.{Row, row-ops, fresh-row}
use Rattle.rules.specs.Plans.{Step}
use Rattle.rules.specs.Steps.{Screen, reset, call}
use Rattle.rules.specs.Recording.{Recording, File, parsed, recording}
use Rattle.rules.specs.Walk.{Place, frame-of, play}
use Rattle.rules.specs.Logged.{walk-logged}
use Rattle.rules_picture.specs.Built.{Built}

-- the file ws played, where the screen was `old`
abbrev pub played : Place → Screen Row → File → Answer (Screen Row)
played p old ws = play (Screen Row) (call Row row-ops) (reset fresh-row) p old ws

-- the steps of a recording's walk from the reset, each that was called
abbrev pub history : Place → Recording → List Step
history p r = (walk-logged Row row-ops fresh-row (frame-of p r) r).value.log

-- the file is well formed: its parts, and the recording that they say
pub record Readable (ws : File) : Type 0 where
  pub parts : List (List (List ℕ))
  pub formed : parsed ws ≡ Some parts

abbrev pub said : {ws : File} → Readable ws → Recording
said s = recording s.parts

-- an accepted recording has left the screen u: built from its reset by its history, with no layer open
pub record Accepted (p : Place) (ws : File) (u : Screen Row) : Type 0 where
  pub words : Readable ws
  pub built : Built (history p (said words)) (reset fresh-row (frame-of p (said words))) u
  pub closed : u.state.layers ≡ []

-- one refused for its records or its steps has left its screen freshly reset
pub record LeftReset (p : Place) (ws : File) (u : Screen Row) : Type 0 where
  pub words : Readable ws
  pub fresh : u ≡ reset fresh-row (frame-of p (said words))
