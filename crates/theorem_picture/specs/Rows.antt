-- The picture where rows are painted by one call, by steps, or by both in any mixture.
use Rattle.std.specs.Prelude.{ℕ, ◌/◌, ◌<◌, ◌≡◌, Bool, true, ◌||◌, List, [], ◌∷◌, eqb}
use Rattle.rules.specs.Lists.{every}
use Rattle.rules.specs.Answers.{Done}
use Rattle.rules.specs.Boxes.{width, rows_of}
use Rattle.rules.specs.Plans.{Frame, bucket, Step}
use Rattle.rules.specs.Painting.{received}
use Rattle.rules.specs.Plain.{plain}
use Rattle.screen.specs.Tables.{ScreenLent}
use Rattle.paint.specs.Painting as paint
use Rattle.paint.specs.Stepping.{attributes}
use Rattle.paint.specs.Running.{row-painted}
use Rattle.rules_picture.specs.Turns.{Gave, from, said-finished}
use Rattle.theorem_picture.specs.Reached.{Reached, with-canvas, begin-at, paint-out}
use Rattle.theorem_picture.specs.Turns.{Turn, pieces-in, gave-out, turned, log, finished-at}

-- `paint_row` of row i into a list: what it gives, and the words afterwards
unfoldable pub row_out : ℕ → List ℕ → ScreenLent → paint.StepOut
row_out i list l =
    row-painted l.screen i (attributes l.tables.paint-attrs l.tables.layer-attrs)
    (paint.words_lent l.tables.rows l.tables.render l.tables.fills l.tables.depth l.tables.painting list)

abbrev pub row_at : ℕ → List ℕ → ScreenLent → ScreenLent
row_at i list l = let o = row_out i list l in with-canvas l l.screen o.depth o.painting

-- Painting steps that do what such a call does. All are of its row; they leave the same words; the pieces that they give are those that the
-- call's list holds afterwards; and one of them says finished exactly if the call does.
pub record RowTurns (i : ℕ) (list : List ℕ) (l : ScreenLent) : Type 0 where
  pub turns : List Turn
  pub own : every (λ (t : Turn). eqb t.row i) turns ≡ true
  pub words : turned turns l ≡ row_at i list l
  pub pieces : from i (log turns l) ≡ pieces-in (row_out i list l).answer.pieces (row_out i list l).list
  pub said : said-finished i (log turns l) ≡ (row_out i list l).answer.finished

-- one call of `paint_step` or of `paint_row`: any row, there or not, and the words of any list
pub data Call : Type 0 where
  one-step : Turn → Call
  whole_row : Turn → Call

abbrev pub turn_in : Call → Turn
turn_in (one-step t) = t
turn_in (whole_row t) = t

-- what it gives, and the words afterwards
abbrev pub call-out : Call → ScreenLent → paint.StepOut
call-out (one-step t) l = paint-out t.row t.list l
call-out (whole_row t) l = row_out t.row t.list l

abbrev pub after_call : Call → ScreenLent → ScreenLent
after_call c l = let o = call-out c l in with-canvas l l.screen o.depth o.painting

-- the words after the calls, one after the other, each done or refused
unfoldable pub called : List Call → ScreenLent → ScreenLent
called [] l = l
called (c ∷ cs) l = called cs (after_call c l)

-- .. and what each call gave, in the order of the calls
unfoldable pub call-log : List Call → ScreenLent → List Gave
call-log [] l = []
call-log (c ∷ cs) l = gave-out (turn_in c).row (call-out c l) ∷ call-log cs (after_call c l)

-- Painting steps that do what the calls do: they leave the same words, and of each row they give the same pieces and say finished alike.
pub record CallTurns (cs : List Call) (l : ScreenLent) : Type 0 where
  pub turns : List Turn
  pub words : turned turns l ≡ called cs l
  pub pieces : (r : ℕ) → from r (log turns l) ≡ from r (call-log cs l)
  pub said : (r : ℕ) → said-finished r (log turns l) ≡ said-finished r (call-log cs l)

-- row r has finished after the calls cs on the words l: one of its calls said so, or its next step does
abbrev pub row-finished : ℕ → List Call → ScreenLent → Bool
row-finished r cs l = said-finished r (call-log cs l) || finished-at (called cs l) r

-- Take any screen built from its reset by done steps xs, each call given the words that the last one left, with painting freshly begun
-- (so all layers are closed), and nothing but painting calls cs from then on: steps of its rows and rows painted by one call, by turns, in
-- any mixture, into lists of any length. When row r has finished, each of its tiles has received, by the words of its calls' lists, exactly
-- what plain draw order gives it, in that order and at that nesting, less what came before the newest eligible solid segment that, once cut
-- to the screen, covers the tile's whole bucket; where there is none, it has received everything.
abbrev pub PictureByRows : Type 0
PictureByRows =
    (f : Frame) (xs : List Step) (l : ScreenLent) → Reached f xs l → (begin-at l).number ≡ Done
    → (cs : List Call) (r t : ℕ) → r < rows_of f.viewport → t < width f.viewport / 4
    → row-finished r cs (begin-at l).value ≡ true
    → received t (from r (call-log cs (begin-at l).value)) ≡ plain (bucket f) f.viewport r t xs
