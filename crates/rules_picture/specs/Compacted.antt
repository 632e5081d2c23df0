-- Room back in a crowded row: what is taken out, and what that leaves as it was.
use Rattle.std.specs.Prelude.{ℕ, zero, suc, ◌/◌, ◌<◌, ◌≤◌, ◌≡◌, Bool, true, false, List, [], ◌∷◌, length, get_or, eqb}
use Rattle.rules.specs.Answers.{Done}
use Rattle.rules.specs.Spans.{Span, covers}
use Rattle.rules.specs.Depth.{is-visible}
use Rattle.rules.specs.Commands.{Command, paint-fill, layer-fill, push-buf, pop-buf}
use Rattle.rules.specs.Attributes.{Attrs}
use Rattle.rules.specs.Rows.{Row, row-ops, fresh-row}
use Rattle.rules.specs.Boxes.{width, rows_of}
use Rattle.rules.specs.Plans.{Frame, bucket, Step}
use Rattle.rules.specs.Steps.{Screen, reset, call}
use Rattle.rules.specs.Plain.{untold, tell-steps, plain}
use Rattle.rules.specs.Painting.{paint-id, layer-id, paint-row, received}
use Rattle.rules.specs.Calls.{Canvas, begin-call, painter-of, can-skip-call}
use Rattle.rules.specs.Compacted.{newest-ids, Removed, Removes, compacted, compact, compact-screen, compact-call}
use Rattle.rules_picture.specs.Colours.{Colours, turns-drawn, plain-drawn, if-touched, if-inside, Opaque, Gentle}
use Rattle.rules_picture.specs.Skip.{FillsPainted}
use Rattle.rules_picture.specs.StoredColours.{newest-over, newest-id, stored-drawn}
use Rattle.rules_picture.specs.Turns.{Turn, from, has-finished, painted}

-- with n buffers open: none is closed that is not open, and in the end none is open
abbrev pub balanced : ℕ → List Command → Bool
balanced n [] = eqb n 0
balanced n (paint-fill s x i ∷ cs) = balanced n cs
balanced n (layer-fill s x i ∷ cs) = balanced n cs
balanced n (push-buf s ∷ cs) = balanced (suc n) cs
balanced zero (pop-buf ∷ cs) = false
balanced (suc n) (pop-buf ∷ cs) = balanced n cs

-- What is left is what single removals lead to, and no removal is left.
abbrev pub Removals : Type 0
Removals =
    (w n : ℕ) (a : Attrs) (r : Row)
    → Removes w a (newest-ids a n r.fills) r.commands (compacted w n a r)
    × ((ds : List Command) → Removed w a (newest-ids a n r.fills) (compacted w n a r) ds → ⊥)

-- So a second pass changes no row, and a second call changes no canvas and answers the same.
abbrev pub Twice-once : Type 0
Twice-once = (w n : ℕ) (a : Attrs) (r : Row) → compact w n a (compact w n a r) ≡ compact w n a r

abbrev pub Twice-called : Type 0
Twice-called = (i : ℕ) (k : Canvas) → (compact-call i k).number ≡ Done → compact-call i (compact-call i k).value ≡ compact-call i k

-- A row painted to its end gives exactly the pieces that it gave before, in their order and at their nesting, whatever the row is.
abbrev pub Compacted-same : Type 0
Compacted-same = (w n : ℕ) (a : Attrs) (r : Row) → paint-row w a n (compact w n a r) ≡ paint-row w a n r

-- .. also painted by turns, each row of the screen: what it has given when it has finished is what it had given, finished, before the call.
abbrev pub Compacted-gives : Type 0
Compacted-gives =
    (i : ℕ) (k : Canvas) → (compact-call i k).number ≡ Done
    → (ts us : List Turn) (r : ℕ) → r < length k.screen.rows
    → has-finished (painted ts k).canvas r ≡ true → has-finished (painted us (compact-call i k).value).canvas r ≡ true
    → from r (painted us (compact-call i k).value).log ≡ from r (painted ts k).log

-- Buffers that were balanced are so, and others are not.
abbrev pub Compacted-balanced : Type 0
Compacted-balanced = (w n : ℕ) (a : Attrs) (r : Row) → balanced 0 (compacted w n a r) ≡ balanced 0 r.commands

-- No more commands are left than there were.
abbrev pub Less-room : Type 0
Less-room = (w n : ℕ) (a : Attrs) (r : Row) → length (compacted w n a r) ≤ length r.commands

-- So a step that is done on a screen is done on it with any of its rows compacted.
abbrev pub Room-kept : Type 0
Room-kept =
    (x : Step) (i : ℕ) (s : Screen Row) → (call Row row-ops x s).number ≡ Done → (call Row row-ops x (compact-screen i s)).number ≡ Done

-- A screen built from s to u by done steps xs, with rows compacted anywhere between them where no layer is open.
pub data Kept-up : List Step → Screen Row → Screen Row → Type 0 where
  no_step : {s : Screen Row} → Kept-up [] s s
  then : {x : Step} {xs : List Step} {s u : Screen Row} → (call Row row-ops x s).number ≡ Done
      → Kept-up xs (call Row row-ops x s).value u → Kept-up (x ∷ xs) s u
  tidied : {xs : List Step} {s u : Screen Row} (i : ℕ) → s.state.layers ≡ [] → Kept-up xs (compact-screen i s) u → Kept-up xs s u

-- The picture over such histories, of the building steps alone: when a row has finished, each of its tiles has received exactly what plain draw order
-- gives it, in that order and at that nesting, less what came before the newest that hides.
abbrev pub Compacted-picture : Type 0
Compacted-picture =
    (f : Frame) (xs : List Step) (k : Canvas) → Kept-up xs (reset fresh-row f) k.screen → (begin-call k).number ≡ Done
    → (ts : List Turn) (r t : ℕ) → r < rows_of f.viewport → t < width f.viewport / 4
    → has-finished (painted ts k).canvas r ≡ true
    → received t (from r (painted ts k).log) ≡ plain (bucket f) f.viewport r t xs

-- A yes of can_skip says over such histories too that each tile of the span that is on the screen is visible for the id.
abbrev pub Compacted-skip : Type 0
Compacted-skip =
    (f : Frame) (xs : List Step) (k : Canvas) → Kept-up xs (reset fresh-row f) k.screen → (begin-call k).number ≡ Done
    → (ts : List Turn) (r : ℕ) → r < rows_of f.viewport → FillsPainted (painted ts k).canvas r
    → (s : Span) (id : ℕ) → (can-skip-call r s id (painted ts k).canvas).value ≡ true
    → (t : ℕ) → covers s t ≡ true → t < width f.viewport / 4
    → is-visible id (get_or (painter-of (painted ts k).canvas r).buckets (t / bucket f) 0) ≡ true

-- Once a row has finished, the depth word of each tile's bucket is the id of the newest depth fill over it.
abbrev pub Compacted-newest : Type 0
Compacted-newest =
    (f : Frame) (xs : List Step) (k : Canvas) → Kept-up xs (reset fresh-row f) k.screen → (begin-call k).number ≡ Done
    → (ts : List Turn) (r t : ℕ) → r < rows_of f.viewport → t < width f.viewport / 4
    → has-finished (painted ts k).canvas r ≡ true
    → get_or (painter-of (painted ts k).canvas r).buckets (t / bucket f) 0 ≡ newest-id (paint-id k.screen.state.attrs) (newest-over (t / bucket f) (get_or k.screen.rows r fresh-row).fills)

-- What a tile comes to over such histories, whatever the colours are, is what drawing everything in plain order comes to: of colours that keep law 1, where
-- layers close over the rows that they touch, ..
abbrev pub Compacted-touched : Type 0 → Type 0
Compacted-touched B =
    (c : Colours B) (f : Frame) (xs : List Step) (k : Canvas) → Kept-up xs (reset fresh-row f) k.screen → (begin-call k).number ≡ Done
    → (ts : List Turn) (r t : ℕ) → r < rows_of f.viewport → t < width f.viewport / 4
    → has-finished (painted ts k).canvas r ≡ true
    → Opaque c (tell-steps (bucket f) f.viewport r t xs untold).told
    → turns-drawn c r t ts (begin-call k).value (c.blank ∷ []) ≡ plain-drawn c if-touched (bucket f) f.viewport r t xs untold (c.blank ∷ [])

-- .. of colours that keep both laws, where a layer closes over all rows of its own box, ..
abbrev pub Compacted-colours : Type 0 → Type 0
Compacted-colours B =
    (c : Colours B) (f : Frame) (xs : List Step) (k : Canvas) → Kept-up xs (reset fresh-row f) k.screen → (begin-call k).number ≡ Done
    → (ts : List Turn) (r t : ℕ) → r < rows_of f.viewport → t < width f.viewport / 4
    → has-finished (painted ts k).canvas r ≡ true
    → Opaque c (tell-steps (bucket f) f.viewport r t xs untold).told → Gentle c k.screen.state.attrs
    → turns-drawn c r t ts (begin-call k).value (c.blank ∷ []) ≡ plain-drawn c (if-inside (bucket f) f.viewport r t) (bucket f) f.viewport r t xs untold (c.blank ∷ [])

-- .. and of what the row's stored commands and depth fills come to by themselves.
abbrev pub Compacted-stored : Type 0 → Type 0
Compacted-stored B =
    (c : Colours B) (f : Frame) (xs : List Step) (k : Canvas) → Kept-up xs (reset fresh-row f) k.screen → (begin-call k).number ≡ Done
    → (r t : ℕ) → r < rows_of f.viewport → t < width f.viewport / 4
    → Opaque c (tell-steps (bucket f) f.viewport r t xs untold).told → Gentle c k.screen.state.attrs
    → (let attrs = k.screen.state.attrs in
    let row = get_or k.screen.rows r fresh-row in
    stored-drawn c (paint-id attrs) (layer-id attrs) t (bucket f) row.fills row.commands (c.blank ∷ []))
    ≡ plain-drawn c (if-inside (bucket f) f.viewport r t) (bucket f) f.viewport r t xs untold (c.blank ∷ [])
