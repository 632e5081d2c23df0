-- The list that is read off a tile's story is the rules' list, for every file, row and tile, and with the same number.
use Rattle.std.specs.Prelude.{ℕ, ◌≡◌}
use Rattle.sizes.specs.declared.width.Width.{Width}
use Rattle.rules.specs.Setups.{Mode}
use Rattle.rules.specs.Recording.{File}
use Rattle.rules_reason.specs.TileList.{tile-list}
use Rattle.tile.specs.Listed.{list-told}

abbrev pub List-rules : Type 0
List-rules = (m : Mode) (w : Width) (f : File) (row tile room : ℕ) → list-told m w f row tile room ≡ tile-list m w f row tile room
