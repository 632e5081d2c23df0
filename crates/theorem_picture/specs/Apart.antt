-- Painting a row leaves every other row as it was, done or refused, whatever it was lent.
use Rattle.std.specs.Prelude.{ℕ, ◌≡◌, ◌<◌}
use Rattle.screen.specs.declared.Screen.{Screen}
use Rattle.paint.specs.Painting.{RowLent, StepOut}
use Rattle.paint.specs.Judging.{count, wide}
use Rattle.paint.specs.Stepping.{part, depth-part, Attributes, stepped}
use Rattle.paint.specs.Running.{row-painted}

-- the depth words of row q and their minima, and where its painting stands, are as they were lent
abbrev pub Untouched : Screen → ℕ → RowLent → StepOut → Type 0
Untouched s q l o = (depth-part (wide s) q o.depth ≡ depth-part (wide s) q l.depth) × (part 2 q o.painting ≡ part 2 q l.painting)

-- `paint_step` of row r
abbrev pub StepApart : Type 0
StepApart = (s : Screen) (r : ℕ) (a : Attributes) (l : RowLent) (q : ℕ) → q < count s → (q ≡ r → ⊥) → Untouched s q l (stepped s r a l)

-- `paint_row`
abbrev pub RowApart : Type 0
RowApart = (s : Screen) (r : ℕ) (a : Attributes) (l : RowLent) (q : ℕ) → q < count s → (q ≡ r → ⊥) → Untouched s q l (row-painted s r a l)
