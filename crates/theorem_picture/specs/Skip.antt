-- When a yes of `can_skip` says that nothing is hidden, at the words, and what more the rules say of it.
use Rattle.std.specs.Prelude.{ℕ, ◌/◌, ◌≤◌, ◌<◌, ◌≡◌, true, List, [], ◌∷◌, get_or}
use Rattle.sizes.specs.Widths.{bucket-tiles}
use Rattle.rules.specs.Answers.{answer, Done}
use Rattle.rules.specs.Boxes.{width, rows_of}
use Rattle.rules.specs.Spans.{Span, covers}
use Rattle.rules.specs.Depth.{buckets-met, is-visible, visible-runs}
use Rattle.rules.specs.Rows.{fresh-row}
use Rattle.rules.specs.Plans.{Frame, bucket, buckets-across, Step}
use Rattle.rules.specs.Steps.{reset}
use Rattle.rules.specs.Calls.{Canvas, begin-call, painter-of, can-skip-call}
use Rattle.screen.specs.Tables.{ScreenLent}
use Rattle.paint.specs.Judging.{wide}
use Rattle.paint.specs.Stepping.{part}
use Rattle.paint.specs.DirectRuns.{skip-of-row}
use Rattle.rules_picture.specs.Compacted.{Kept-up}
use Rattle.rules_picture.specs.Turns.{Turn, has-finished, painted}
use Rattle.rules_picture.specs.Skip.{FillsPainted}

-- Painting goes on, and `can_skip` of the tiles t of row r and an id is answered by yes: the depth word of each tile's bucket lets the id through.
abbrev pub Clear : ScreenLent → Type 0
Clear l =
    l.screen.painting ≡ true → (r : ℕ) (t : Span) (id : ℕ) → skip-of-row l.screen r l.tables.rows t id ≡ answer Done true
    → (x : ℕ) → t.first ≤ x → x < t.end → get_or (part (wide l.screen) r l.tables.depth.words) (x / bucket-tiles l.screen.width) 0 ≤ id

-- About the rules, rows being compacted between the steps, in a row whose depth fills are painted, where `can-skip-call` says yes: every bucket
-- that the span meets is visible, ..
abbrev pub SkippedBuckets : Type 0
SkippedBuckets =
    (f : Frame) (xs : List Step) (k : Canvas) → Kept-up xs (reset fresh-row f) k.screen → (begin-call k).number ≡ Done
    → (ts : List Turn) (r : ℕ) → r < rows_of f.viewport → FillsPainted (painted ts k).canvas r
    → (s : Span) (id : ℕ) → (can-skip-call r s id (painted ts k).canvas).value ≡ true
    → s.first < s.end → (j : ℕ) → covers (buckets-met (bucket f) s) j ≡ true → j < buckets-across f
    → is-visible id (get_or (painter-of (painted ts k).canvas r).buckets j 0) ≡ true

-- .. and for a span that is not empty and on the screen the visible runs are the span itself.
abbrev pub SkippedRuns : Type 0
SkippedRuns =
    (f : Frame) (xs : List Step) (k : Canvas) → Kept-up xs (reset fresh-row f) k.screen → (begin-call k).number ≡ Done
    → (ts : List Turn) (r : ℕ) → r < rows_of f.viewport → FillsPainted (painted ts k).canvas r
    → (s : Span) (id : ℕ) → (can-skip-call r s id (painted ts k).canvas).value ≡ true
    → s.first < s.end → s.end ≤ width f.viewport / 4
    → visible-runs (bucket f) (painter-of (painted ts k).canvas r).buckets id s ≡ s ∷ []

-- A finished row has painted its depth fills.
abbrev pub FinishedFills : Type 0
FinishedFills = (k : Canvas) (r : ℕ) → has-finished k r ≡ true → FillsPainted k r
