-- What the snapping mode makes of a box.
use Rattle.std.specs.Prelude.{◌%◌, ◌≤◌, ◌<◌, ◌≡◌, true, false}
use Rattle.rules.specs.Boxes.{Box, good_viewport}
use Rattle.rules.specs.Setups.{exact, snapping, snapped, viewport-in}

-- ends not before starts
pub record Ordered (b : Box) : Type 0 where
  pub across : b.x0 ≤ b.x1
  pub down : b.y0 ≤ b.y1

-- every side is a tile edge
pub record Tiled (b : Box) : Type 0 where
  pub left : b.x0 % 4 ≡ 0
  pub top : b.y0 % 4 ≡ 0
  pub right : b.x1 % 4 ≡ 0
  pub bottom : b.y1 % 4 ≡ 0

-- the box a contains the box b
pub record Contains (a b : Box) : Type 0 where
  pub left : a.x0 ≤ b.x0
  pub top : a.y0 ≤ b.y0
  pub right : b.x1 ≤ a.x1
  pub bottom : b.y1 ≤ a.y1

-- s is the smallest box of tile edges that contains the box b
pub record Smallest (s b : Box) : Type 0 where
  pub ordered : Ordered s
  pub tiled : Tiled s
  pub contains : Contains s b
  pub least : (t : Box) → Tiled t → Contains t b → Contains t s

abbrev pub SnappedSmallest : Type 0
SnappedSmallest = (b : Box) → Ordered b → Smallest (snapped b) b

-- On a box of tile edges both modes are the same, ..
abbrev pub ModesSame : Type 0
ModesSame = (b : Box) → Tiled b → viewport-in snapping b ≡ viewport-in exact b

-- .. and so they are on every viewport that the exact mode takes.
abbrev pub ExactSnapped : Type 0
ExactSnapped = (b : Box) → good_viewport b ≡ true → viewport-in snapping b ≡ viewport-in exact b

-- An end past 32,768 is refused in the snapping mode too.
pub record TooFar (b : Box) : Type 0 where
  pub right : 32768 < b.x1 → good_viewport (snapped b) ≡ false
  pub down : 32768 < b.y1 → good_viewport (snapped b) ≡ false

abbrev pub FarRefused : Type 0
FarRefused = (b : Box) → TooFar b
