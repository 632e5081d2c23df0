-- What is read of row r of a screen without painting it: how many commands and depth fills it has, each by its number, and how far it is painted.
use Rattle.std.specs.Prelude.{Result, Option, None, Some, ℕ, ◌*◌, ◌&&◌, Bool, true, cond, List, length, leb, ltb, eqb}
use Rattle.sizes.specs.Sizes.{row-size}
use Rattle.sizes.specs.declared.answers.Refusal.{Refusal}
use Rattle.rules.specs.Answers.{Answer, answer, Done, BadRecord, BadRun}
use Rattle.rules.specs.Commands.{Command, DepthFill}
use Rattle.cmd.specs.declared.command.RenderCmd.{RenderCmd}
use Rattle.cmd.specs.declared.depth_fill.DepthFill as code
use Rattle.cmd.specs.Commands.{command}
use Rattle.cmd.specs.DepthFills.{depth-fill}
use Rattle.depth.specs.Answers.{answered}
use Rattle.row.specs.Words.{Words, words}
use Rattle.screen.specs.declared.Screen.{Screen}
use Rattle.paint.specs.declared.canvas.stored.Stored.{Stored}
use Rattle.paint.specs.declared.canvas.reading.RowLengths.{RowLengths}
use Rattle.paint.specs.declared.canvas.reading.Progress.{Progress}
use Rattle.paint.specs.Answers.{word}
use Rattle.paint.specs.Painting.{command-at, depth-fill-at}
use Rattle.paint.specs.Judging.{count, wide, judged, of_row, rows_long, painting-long}
use Rattle.paint.specs.Stepping.{part}

-- the words of the rows among what is stored
abbrev pub stored_words : Stored → Words
stored_words t = words t.rows.now t.render_cmds.now t.depth_cmds.now

-- the arenas that are read have their lengths
abbrev pub stored-long : Screen → ℕ → ℕ → Bool
stored-long s render fills = eqb render (count s * (4 * s.c)) && eqb fills (count s * (2 * s.d))

-- 2, 1, 4, 12 for no such row
unfoldable pub stored_number : Screen → ℕ → Words → ℕ
stored_number s r w =
    of_row (judged s (stored-long s (length w.render) (length w.fills)) (rows_long s (length w.state))) s r

unfoldable pub progress_number : Screen → ℕ → ℕ → ℕ
progress_number s r painting = of_row (judged s true (painting-long s painting)) s r

-- how many commands, and how many depth fills; steps done, and nesting
pub record Lengths : Type 0 where
  pub commands : ℕ
  pub depths : ℕ

abbrev pub lengths : ℕ → ℕ → Lengths
lengths n m = record { commands = n; depths = m }

pub record Gone : Type 0 where
  pub steps : ℕ
  pub nesting : ℕ

abbrev pub gone : ℕ → ℕ → Gone
gone n m = record { steps = n; nesting = m }

-- an answer, then a second of its value; what the second has in the place of a value is the first's where that is refused
abbrev pub and-then : {A B : Type 0} → Answer A → B → (A → Answer B) → Answer B
and-then a none f = cond (eqb a.number Done) (f a.value) (answer a.number none)

-- by the row's record: no more than there is room for, else 4
abbrev pub record-lengths : Screen → List ℕ → Answer Lengths
record-lengths s k =
    cond (leb (word k 0) s.c && leb (word k 1) s.d) (answer Done (lengths (word k 0) (word k 1))) (answer BadRecord (lengths 0 0))

unfoldable pub lengths-of-row : Screen → ℕ → Words → Answer Lengths
lengths-of-row s r w =
    let n = stored_number s r w in cond (eqb n Done) (record-lengths s (part row-size r w.state)) (answer n (lengths 0 0))

-- what words stand for; 4 for nothing
abbrev pub or-bad : {A : Type 0} → Option A → Answer (Option A)
or-bad (Some x) = answer Done (Some x)
or-bad None = answer BadRecord None

-- the command, and the depth fill, of number i; 12 where there is none
unfoldable pub command-of-row : Screen → ℕ → Words → ℕ → Answer (Option Command)
command-of-row s r w i =
    and-then (lengths-of-row s r w) None
    (λ l. cond (ltb i l.commands) (or-bad (command-at (part (4 * s.c) r w.render) i)) (answer BadRun None))

unfoldable pub depth-of-row : Screen → ℕ → Words → ℕ → Answer (Option DepthFill)
depth-of-row s r w i =
    and-then (lengths-of-row s r w) None
    (λ l. cond (ltb i l.depths) (or-bad (depth-fill-at (wide s) (part (2 * s.d) r w.fills) i)) (answer BadRun None))

unfoldable pub progress-of-row : Screen → ℕ → List ℕ → Answer Gone
progress-of-row s r painting =
    let n = progress_number s r (length painting) in
    let w = part 2 r painting in
    cond (eqb n Done) (answer Done (gone (word w 0) (word w 1))) (answer n (gone 0 0))

-- the code's answers as these
abbrev pub lengths_of : Result RowLengths Refusal → Answer Lengths
lengths_of r = answered (λ (l : RowLengths). lengths l.render_cmds l.depth_cmds) (lengths 0 0) r

abbrev pub command_read : Result RenderCmd Refusal → Answer (Option Command)
command_read r = answered (λ (c : RenderCmd). Some (command c)) None r

abbrev pub depth_read : Result code.DepthFill Refusal → Answer (Option DepthFill)
depth_read r = answered (λ (f : code.DepthFill). Some (depth-fill f)) None r

abbrev pub progress_of : Result Progress Refusal → Answer Gone
progress_of r = answered (λ (p : Progress). gone p.steps p.nesting) (gone 0 0) r
