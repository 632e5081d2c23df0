-- Rows painted one after the other into one list: each by calls for a row, on what is left of the list.
use Rattle.std.specs.Prelude.{Result, Ok, Err, ℕ, zero, suc, ◌+◌, ◌-◌, ◌*◌, ◌≤◌, ◌<◌, ◌≡◌, Bool, false, true, not, cond, List, [], ◌∷◌, ◌++◌, length, take, drop, slice_set, eqb, ltb}
use Rattle.sizes.specs.Sizes.{piece-size}
use Rattle.sizes.specs.Widths.{bucket-tiles}
use Rattle.std.specs.Prelude.{Option, None, Some}
use Rattle.rules.specs.Answers.{first_of, Done, BadRun, Open, NoRoom}
use Rattle.rules.specs.Spans.{good-range}
use Rattle.sizes.specs.Refusals.{number_of}
use Rattle.screen.specs.declared.Screen.{Screen}
use Rattle.screen.specs.Depths.{Depths}
use Rattle.paint.specs.declared.canvas.stored.Stored.{Stored}
use Rattle.paint.specs.declared.canvas.stored.Canvas.{Canvas}
use Rattle.paint.specs.declared.rows.RowRange.{RowRange}
use Rattle.paint.specs.declared.rows.Stopped.{Stopped}
use Rattle.paint.specs.declared.rows.Turn.{Turn}
use Rattle.paint.specs.declared.whole.run.Went.{Went}
use Rattle.paint.specs.Answers.{Painted}
use Rattle.paint.specs.Judging.{count, wide, arenas-long, tables-long, judged, paints-on}
use Rattle.paint.specs.Painting.{RowLent, words_lent, StepOut, out, listed}
use Rattle.paint.specs.Stepping.{Attributes, number}
use Rattle.paint.specs.Running.{goes_on, one_more, most, standing, row-run-on, row-painted}
use Rattle.paint.specs.Named.{row_attrs, used_attrs, row_lent, step_out}
use Rattle.sizes.specs.declared.answers.Refusal.{Refusal}

-- What rows give: the number, how many of them are painted to their end, how many pieces are listed, and the words that they may change.
pub record RowsOut : Type 0 where
  pub number : ℕ
  pub done : ℕ
  pub pieces : ℕ
  pub depth : Depths
  pub painting : List ℕ
  pub list : List ℕ
  pub ends : List ℕ

-- k rows are done, with these ends, and o is what the last turn left
abbrev pub rows_out : ℕ → ℕ → List ℕ → StepOut → RowsOut
rows_out n k e o =
    record { number = n; done = k; pieces = o.answer.pieces; depth = o.depth; painting = o.painting; list = o.list; ends = e }

-- a row that stops before its end, and is not refused, wants more room
abbrev pub wanting : StepOut → StepOut
wanting o = out (record { number = NoRoom; finished = false; pieces = o.answer.pieces }) o.depth o.painting o.list

-- what a call on row r gives of the depth words and their minima, the painting words and a list
module _ (row : ℕ → Depths → List ℕ → List ℕ → StepOut) where
  -- a row's turn, on what is left of the list: its call; where that stops before the row's end the next one, whose number says why
  abbrev pub turn_again : ℕ → StepOut → StepOut
  turn_again r g = let o = one_more (row r) g in cond (goes_on o.answer) (wanting o) o

  abbrev pub turn : ℕ → StepOut → StepOut
  turn r g = let o = one_more (row r) g in cond (goes_on o.answer) (turn_again r o) o

  -- f rows from row r on, each on what those before it left, up to the first that stops; k are done, with these ends
  unfoldable pub rows_in_order : ℕ → ℕ → ℕ → List ℕ → StepOut → RowsOut
  rows_in_order zero r k e g = rows_out Done k e g
  rows_in_order (suc f) r k e g =
      let o = turn r g in
      let more = rows_in_order f (r + 1) (k + 1) (slice_set e k o.answer.pieces) o in
      cond (eqb o.answer.number Done) more (rows_out o.answer.number k e o)

-- calls for the rows of a screen
abbrev pub call_row : Screen → Attributes → RowLent → ℕ → Depths → List ℕ → List ℕ → StepOut
call_row s a l r d p t = row-painted s r a (words_lent l.state l.render l.fills d p t)

-- Judging: 2, 1, 4, then 12 for no range of the rows, 13 with a layer open or where painting has not begun, 14 for too few ends.
abbrev pub asked : RowRange → ℕ
asked r = r.end - r.first

unfoldable pub rows_number : Screen → RowRange → Bool → Bool → ℕ → ℕ
rows_number s r arenas tables ends =
    let n = judged s arenas tables in
    cond (eqb n Done)
    (first_of ((not (good-range r.first r.end (count s)), BadRun) ∷ (not (paints-on s), Open) ∷ (ltb ends (asked r), NoRoom) ∷ []))
    n

abbrev pub number-of-rows : Screen → RowRange → Attributes → RowLent → ℕ → ℕ
number-of-rows s r a l ends =
    rows_number s r (arenas-long s (length l.render) (length l.fills) (length l.depth.words) (length l.depth.minima))
    (tables-long s (length l.state) (length l.painting) (length a.paints) (length a.layers))
    ends

-- the rows of a range, from where they stand
abbrev pub rows-in-order : Screen → RowRange → Attributes → RowLent → List ℕ → RowsOut
rows-in-order s r a l e = rows_in_order (call_row s a l) (asked r) r.first 0 e (standing l.depth l.painting l.list)

-- the call: refused, or the rows in order
unfoldable pub rows-painted : Screen → RowRange → Attributes → RowLent → List ℕ → RowsOut
rows-painted s r a l e =
    let n = number-of-rows s r a l (length e) in
    cond (eqb n Done) (rows-in-order s r a l e) (rows_out n 0 e (standing l.depth l.painting l.list))

-- By the code's own values. What stopped a row, if anything did; its turn, after which so many pieces are listed; what a result says of n rows.
abbrev pub turned : Option Refusal → ℕ → Painted
turned None n = record { number = Done; finished = true; pieces = n }
turned (Some r) n = record { number = number_of r; finished = false; pieces = n }

abbrev pub turn_of : Turn → Painted
turn_of t = turned t.stop t.pieces

abbrev pub rows_told : ℕ → Result ℕ Stopped → Canvas → List ℕ → List ℕ → RowsOut
rows_told n (Ok p) c l e = rows_out Done n e (step_out (listed p) c l)
rows_told n (Err s) c l e = rows_out (number_of s.refusal) s.done e (step_out (listed s.pieces) c l)

-- calls for the rows of what is lent
abbrev pub row_calls : Screen → Stored → ℕ → Depths → List ℕ → List ℕ → StepOut
row_calls s t r d p l = row-painted s r (row_attrs t) (words_lent t.rows.now t.render_cmds.now t.depth_cmds.now d p l)

-- What is left of row r's call after steps that are done, on the list from piece n on, comes to the whole call on g: its pieces after those n.
abbrev pub RestOf : Screen → ℕ → Stored → Canvas → List ℕ → ℕ → Went → StepOut → Type 0
RestOf s r t c l n w g =
    (q : Painted) (d : Depths) (p ys : List ℕ)
    → out q d p ys ≡ row-run-on (bucket-tiles s.width) (most - w.steps) w.steps w.pieces (used_attrs s t) (wide s) s.c s.d r (row_lent t c (take (length l - piece-size * n) (drop (piece-size * n) l)))
    → out (record { number = q.number; finished = q.finished; pieces = n + q.pieces }) d p (take (piece-size * n) l ++ ys) ≡ one_more (row_calls s t r) g

-- each row of a range would be painted as far as screen, lengths and row go; so would it with any list
abbrev pub RowsReady : Screen → RowRange → Stored → Canvas → Type 0
RowsReady s r t c = (q : ℕ) → r.first ≤ q → q < r.end → number s q (row_attrs t) (row_lent t c []) ≡ Done

-- .. which is what is asked of a canvas that is lent for them
abbrev pub in-order-of : Screen → RowRange → Stored → Canvas → List ℕ → List ℕ → RowsOut
in-order-of s r t c l e = rows-in-order s r (row_attrs t) (row_lent t c l) e

abbrev pub painted-rows : Screen → RowRange → Stored → Canvas → List ℕ → List ℕ → RowsOut
painted-rows s r t c l e = rows-painted s r (row_attrs t) (row_lent t c l) e
