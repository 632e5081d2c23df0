-- What the walk of one tile's story goes by.
use Rattle.std.specs.Prelude.{ℕ, ◌+◌, ◌≡◌, List, length}
use Rattle.sizes.specs.Sizes.{most-layers, line-table}
use Rattle.file.specs.declared.recording.Recording.{Recording}
use Rattle.walk.specs.Ready.{ReadyIn}
use Rattle.tile.specs.declared.steps.Spot.{Spot}
use Rattle.tile.specs.declared.steps.Within.{Within}
use Rattle.tile.specs.declared.steps.Tale.{Tale}
use Rattle.tile.specs.Places.{Spotted, Bounded, Low}

-- the form is good, and so is every record; the tile is one of the screen's; counts are within their limits, and there is a line for each attribute
pub record TaleReady (r : Recording) (s : Spot) (h : Within) (t : Tale) (lines : List ℕ) : Type 0 where
  pub walk : ReadyIn r
  pub spotted : Spotted s
  pub bounded : Bounded h
  pub low : Low t
  pub room : length lines ≡ line-table

-- so many levels are left as layers can still be opened
abbrev pub Deep : ℕ → Within → Type 0
Deep depth h = depth + h.«open» ≡ most-layers
