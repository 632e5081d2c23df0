-- What holds of every screen that the rules build, whatever its steps, and wherever its rows were compacted between them.
use Rattle.std.specs.Prelude.{ℕ, ◌≤◌, ◌≡◌, true, List, length, get_or}
use Rattle.rules.specs.Boxes.{good_viewport}
use Rattle.rules.specs.Rows.{Row, fresh-row}
use Rattle.rules.specs.Plans.{Frame, bucket, buckets-across, Step}
use Rattle.rules.specs.Steps.{Screen, reset}
use Rattle.rules.specs.Walk.{good-room}
use Rattle.rules.specs.Painting.{paint-row}
use Rattle.rules_picture.specs.Compacted.{Kept-up}

-- A screen keeps its reset's frame: the viewport, C, D and the width of a bucket.
abbrev pub FrameKept : Type 0
FrameKept = (f : Frame) (xs : List Step) (u : Screen Row) → Kept-up xs (reset fresh-row f) u → u.state.frame ≡ f

-- A row that is painted to its end gives at most 65,536 pieces.
abbrev pub RowsFew : Type 0
RowsFew =
    (f : Frame) (xs : List Step) (u : Screen Row) → good_viewport f.viewport ≡ true → good-room f.c ≡ true → good-room f.d ≡ true
    → Kept-up xs (reset fresh-row f) u → (r : ℕ)
    → length (paint-row (bucket f) u.state.attrs (buckets-across f) (get_or u.rows r fresh-row)) ≤ 65536
