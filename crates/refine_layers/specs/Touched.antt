-- Which rows the open layers have reached (rules 5 and 10; reading 38): a row has the PushBuf of a layer only if it lies in that layer's box.
use Rattle.std.specs.Prelude.{ℕ, suc, ◌+◌, ◌/◌, ◌≤◌, ◌<◌, List, [], ◌∷◌, length, get_or}
use Rattle.rules.specs.Boxes.{Box}
use Rattle.rules.specs.Rows.{Row, fresh-row}
use Rattle.rules.specs.Plans.{Layer}
use Rattle.rules.specs.Steps.{Screen}

-- row i is among the rows that the box b meets
pub record In (b : Box) (i : ℕ) : Type 0 where
  pub from : b.y0 / 4 ≤ i
  pub to : i < (b.y1 + 3) / 4

-- from top to bottom, the box b lies in the box of the innermost of some layers
abbrev pub Under : Box → List Layer → Type 0
Under b [] = Unit {0}
Under b (l ∷ ls) = (l.bounds.y0 ≤ b.y0) × (b.y1 ≤ l.bounds.y1)

-- rule 8: each layer's box lies in its parent's
abbrev pub Nested : List Layer → Type 0
Nested [] = Unit {0}
Nested (l ∷ ls) = Under l.bounds ls × Nested ls

-- of the layers, the innermost first, the m outermost have row i in their boxes
abbrev pub Boxed : List Layer → ℕ → ℕ → Type 0
Boxed [] i m = Unit {0}
Boxed (l ∷ ls) i m = (suc (length ls) ≤ m → In l.bounds i) × Boxed ls i m

-- how many levels row i has; a row past the last has none
abbrev pub levels-at : List Row → ℕ → ℕ
levels-at rs i = length (get_or rs i fresh-row).levels

-- row i has no more levels than there are layers, and lies in the box of each layer whose PushBuf it has
pub record Reached (ls : List Layer) (i m : ℕ) : Type 0 where
  pub few : m ≤ length ls
  pub boxed : Boxed ls i m

-- what holds of every screen that a reset and steps make
pub record Reaching (s : Screen Row) : Type 0 where
  pub nested : Nested s.state.layers
  pub rows : (i : ℕ) → Reached s.state.layers i (levels-at s.rows i)
