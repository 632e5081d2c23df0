-- What rows painted by one call are, by calls for single rows, and in parts.
use Rattle.std.specs.Prelude.{ℕ, ◌+◌, ◌≡◌, true, List, slice_set}
use Rattle.rules.specs.Answers.{Done}
use Rattle.screen.specs.Depths.{Depths}
use Rattle.paint.specs.Painting.{StepOut, out, listed}
use Rattle.paint.specs.Running.{standing}
use Rattle.paint.specs.InOrder.{RowsOut, rows_out, rows_in_order}

-- what rows left, as the next ones find it
abbrev pub rows_so_far : RowsOut → StepOut
rows_so_far o = out (listed o.pieces) o.depth o.painting o.list

-- Rows that are done, and those behind them by a further call on what is left of the list, are all of them by one call.
abbrev pub InParts : Type 0
InParts =
    (row : ℕ → Depths → List ℕ → List ℕ → StepOut) (f m r k : ℕ) (e : List ℕ) (g : StepOut) → let o = rows_in_order row f r k e g in o.number ≡ Done
    → (o.done ≡ k + f) × (rows_in_order row (f + m) r k e g ≡ rows_in_order row m (r + f) (k + f) o.ends (rows_so_far o))

-- One row by such a call, painted to its end, is its own call, and its end is how many pieces that has.
abbrev pub OneRow : Type 0
OneRow =
    (row : ℕ → Depths → List ℕ → List ℕ → StepOut) (r : ℕ) (e : List ℕ) (d : Depths) (p l : List ℕ) → let o = row r d p l in o.answer.number ≡ Done
    → o.answer.finished ≡ true → rows_in_order row 1 r 0 e (standing d p l) ≡ rows_out Done 1 (slice_set e 0 o.answer.pieces) o
