-- Rows painted by one call are rows painted by a call for each, so the picture speaks of them too.
use Rattle.std.specs.Prelude.{ℕ, ◌≡◌, Bool, List}
use Rattle.rules.specs.Lists.{join}
use Rattle.rules.specs.Plans.{Frame, Step}
use Rattle.screen.specs.Tables.{ScreenLent}
use Rattle.paint.specs.Painting as paint
use Rattle.paint.specs.Stepping.{attributes}
use Rattle.paint.specs.declared.rows.RowRange.{RowRange}
use Rattle.paint.specs.InOrder.{RowsOut, rows-painted}
use Rattle.rules_picture.specs.Turns.{Gave}
use Rattle.theorem_picture.specs.Reached.{ReachedBy, with-canvas}
use Rattle.theorem_picture.specs.Turns.{pieces-in}
use Rattle.theorem_picture.specs.Rows.{Call, called, call-log}

-- `paint_rows` of a range into a list, with ends: what it gives, and the words afterwards
unfoldable pub rows-given : RowRange → List ℕ → List ℕ → ScreenLent → RowsOut
rows-given r list ends l =
    rows-painted l.screen r (attributes l.tables.paint-attrs l.tables.layer-attrs)
    (paint.words_lent l.tables.rows l.tables.render l.tables.fills l.tables.depth l.tables.painting list)
    ends

abbrev pub rows-at : RowRange → List ℕ → List ℕ → ScreenLent → ScreenLent
rows-at r list ends l = let o = rows-given r list ends l in with-canvas l l.screen o.depth o.painting

-- Calls of `paint_row` that do what such a call does: they leave the same words, and the pieces that they give, one call after the other, are those that
-- the call's list holds afterwards.
pub record RowsCalls (r : RowRange) (list ends : List ℕ) (l : ScreenLent) : Type 0 where
  pub calls : List Call
  pub words : called calls l ≡ rows-at r list ends l
  pub pieces : join (λ (g : Gave). g.pieces) (call-log calls l) ≡ pieces-in (rows-given r list ends l).pieces (rows-given r list ends l).list

abbrev pub RowsAreCalls : Type 0
RowsAreCalls = (l : ScreenLent) (r : RowRange) (list ends : List ℕ) → RowsCalls r list ends l

-- It leaves reached words reached.
abbrev pub ManyReached : Type 0
ManyReached =
    (c : Bool) (f : Frame) (xs : List Step) (l : ScreenLent) (r : RowRange) (list ends : List ℕ) → ReachedBy c f xs l → ReachedBy c f xs (rows-at r list ends l)
