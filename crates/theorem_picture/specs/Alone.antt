-- About the rules: rows painted alone and by turns, and where nothing hides.
use Rattle.std.specs.Prelude.{ℕ, ◌/◌, ◌<◌, ◌≡◌, true, false, List, length, get_or}
use Rattle.rules.specs.Lists.{some_of}
use Rattle.rules.specs.Answers.{Done}
use Rattle.rules.specs.Boxes.{rows_of}
use Rattle.rules.specs.Rows.{Row, fresh-row}
use Rattle.rules.specs.Plans.{Frame, bucket, buckets-across, Step}
use Rattle.rules.specs.Steps.{Screen, reset}
use Rattle.rules.specs.Painting.{paint-row, received}
use Rattle.rules.specs.Plain.{Told, shown, plain}
use Rattle.rules.specs.Calls.{Canvas, bucket-on, begin-call}
use Rattle.rules_picture.specs.Built.{Built}
use Rattle.rules_picture.specs.Turns.{Turn, from, said-finished, has-finished, painted}

-- A row of a built screen that is painted alone to its end, over n buckets, has given each of its tiles what plain draw order gives it, as
-- `Picture` says; for this no layer need be closed.
abbrev pub RowPicture : Type 0
RowPicture =
    (f : Frame) (xs : List Step) (u : Screen Row) → Built xs (reset fresh-row f) u
    → (r t n : ℕ) → r < rows_of f.viewport → t / bucket f < n
    → received t (paint-row (bucket f) u.state.attrs n (get_or u.rows r fresh-row)) ≡ plain (bucket f) f.viewport r t xs

-- A row that has finished, painted by turns, has given what it gives when it is painted alone to its end.
abbrev pub FinishedAlone : Type 0
FinishedAlone =
    (ts : List Turn) (k : Canvas) (r : ℕ) → (begin-call k).number ≡ Done → r < length k.screen.rows → has-finished (painted ts k).canvas r ≡ true
    → from r (painted ts k).log
    ≡ paint-row (bucket-on k) k.screen.state.attrs (buckets-across k.screen.state.frame) (get_or k.screen.rows r fresh-row)

-- A row of which a call has said finished has finished.
abbrev pub SaidFinished : Type 0
SaidFinished =
    (ts : List Turn) (k : Canvas) (r : ℕ) → (begin-call k).number ≡ Done → r < length k.screen.rows → said-finished r (painted ts k).log ≡ true
    → has-finished (painted ts k).canvas r ≡ true

-- Where nothing hides, everything is shown.
abbrev pub AllShown : Type 0
AllShown = (ts : List Told) → some_of (λ (u : Told). u.hides) ts ≡ false → shown ts ≡ ts
