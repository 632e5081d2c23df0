-- When a yes of can_skip says that nothing is hidden, at the frame's own width.
use Rattle.std.specs.Prelude.{ℕ, ◌/◌, ◌≤◌, ◌<◌, ◌≡◌, true, List, length, get_or}
use Rattle.rules.specs.Answers.{Done}
use Rattle.rules.specs.Boxes.{width, rows_of}
use Rattle.rules.specs.Spans.{Span, covers}
use Rattle.rules.specs.Rows.{fresh-row}
use Rattle.rules.specs.Plans.{Frame, bucket, Step}
use Rattle.rules.specs.Steps.{reset}
use Rattle.rules.specs.Depth.{is-visible}
use Rattle.rules.specs.Calls.{Canvas, begin-call, painter-of, can-skip-call}
use Rattle.rules_picture.specs.Built.{Built}
use Rattle.rules_picture.specs.Turns.{Turn, painted}

-- row r has painted its depth fills
abbrev pub FillsPainted : Canvas → ℕ → Type 0
FillsPainted k r = length (get_or k.screen.rows r fresh-row).fills ≤ (painter-of k r).steps

-- On a built screen, painted by turns, where can_skip says yes of the span s and the id in a row whose depth fills are painted: the
-- bucket of each tile of s that is on the screen is visible for the id.
abbrev pub Skipped-visible : Type 0
Skipped-visible =
    (f : Frame) (xs : List Step) (k : Canvas) → Built xs (reset fresh-row f) k.screen → (begin-call k).number ≡ Done
    → (ts : List Turn) (r : ℕ) → r < rows_of f.viewport → FillsPainted (painted ts k).canvas r
    → (s : Span) (id : ℕ) → (can-skip-call r s id (painted ts k).canvas).value ≡ true
    → (t : ℕ) → covers s t ≡ true → t < width f.viewport / 4
    → is-visible id (get_or (painter-of (painted ts k).canvas r).buckets (t / bucket f) 0) ≡ true
