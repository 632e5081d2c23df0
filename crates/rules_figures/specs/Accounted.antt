-- What the figures come to, on every screen that done steps build from its reset.
use Rattle.std.specs.Prelude.{ℕ, ◌+◌, ◌≤◌, ◌<◌, ◌≡◌, true, List, length}
use Rattle.sizes.specs.Sizes.{most-room}
use Rattle.rules.specs.Boxes.{good_viewport}
use Rattle.rules.specs.Recording.{File}
use Rattle.rules.specs.Walk.{Place}
use Rattle.rules.proofs.All.{All}
use Rattle.rules.specs.Rows.{Row, fresh-row}
use Rattle.rules.specs.Plans.{Frame, Step}
use Rattle.rules.specs.Steps.{Screen, reset}
use Rattle.rules_picture.specs.Built.{Built}
use Rattle.rules_figures.specs.Figures.{asked, hidden, painted, Figures, figures, total}
use Rattle.rules_figures.specs.Recordings.{of-file}
use Rattle.rules_figures.specs.RowFigures.{screen-figures}

-- a list of recordings has no more
abbrev pub most-recordings : ℕ
most-recordings = 65536

-- a screen that the steps xs have built from its reset
pub record Left (f : Frame) (xs : List Step) (u : Screen Row) : Type 0 where
  pub view : good_viewport f.viewport ≡ true
  pub built : Built xs (reset fresh-row f) u

-- what is read off the rows is what the history asked for ..
abbrev pub Asked-plain : Type 0
Asked-plain = (f : Frame) (xs : List Step) (u : Screen Row) → Left f xs u → (screen-figures u).asked ≡ asked f xs

-- .. what the pieces of the rows cover ..
abbrev pub Painted-pieces : Type 0
Painted-pieces = (f : Frame) (xs : List Step) (u : Screen Row) → Left f xs u → (screen-figures u).painted ≡ painted u

-- .. and what the picture leaves out
abbrev pub Hidden-dropped : Type 0
Hidden-dropped = (f : Frame) (xs : List Step) (u : Screen Row) → Left f xs u → (screen-figures u).hidden ≡ hidden f xs

-- all six at once
abbrev pub Figures-read : Type 0
Figures-read = (f : Frame) (xs : List Step) (u : Screen Row) → Left f xs u → screen-figures u ≡ figures f xs u

-- every tile that was asked for is painted or hidden
abbrev pub Asked-accounted : Type 0
Asked-accounted = (f : Frame) (xs : List Step) (u : Screen Row) → Left f xs u → asked f xs ≡ painted u + hidden f xs

-- each number is below 2^31
pub record Small (a : Figures) : Type 0 where
  pub asked : a.asked < 2147483648
  pub painted : a.painted < 2147483648
  pub hidden : a.hidden < 2147483648
  pub commands : a.commands < 2147483648
  pub fills : a.fills < 2147483648
  pub refused : a.refused ≤ 1

abbrev pub Figures-small : Type 0
Figures-small =
    (f : Frame) (xs : List Step) (u : Screen Row) → Left f xs u → f.c ≤ most-room → f.d ≤ most-room → Small (figures f xs u)

-- .. and each total of at most 65,536 recordings below 2^47
pub record Small-total (a : Figures) : Type 0 where
  pub asked : a.asked < 140737488355328
  pub painted : a.painted < 140737488355328
  pub hidden : a.hidden < 140737488355328
  pub commands : a.commands < 140737488355328
  pub fills : a.fills < 140737488355328
  pub refused : a.refused ≤ 65536

-- every tile is accounted for in the totals too
abbrev pub Accounted : Figures → Type 0
Accounted g = g.asked ≡ g.painted + g.hidden

abbrev pub Totals-accounted : Type 0
Totals-accounted = (gs : List Figures) → All Accounted gs → Accounted (total gs)

abbrev pub Totals-small : Type 0
Totals-small = (gs : List Figures) → length gs ≤ most-recordings → All Small gs → Small-total (total gs)

-- of each recording, accepted or refused, in any place
abbrev pub Files-accounted : Type 0
Files-accounted = (p : Place) (f : File) → Accounted (of-file p f) × Small (of-file p f)
