-- The definitions of Kinds and Running, of a row's value.
use Rattle.std.specs.Prelude.{Option, Some, Bool, [], ◌∷◌, length, ℕ, ◌+◌, ◌-◌, ◌*◌, ◌/◌, ◌≤◌, ◌<◌, ◌≡◌, true, cond, List, leb}
use Rattle.rules.specs.Attributes.{Attrs}
use Rattle.sizes.specs.Sizes.{piece-size, most-layers}
use Rattle.sizes.specs.Widths.{bucket-tiles}
use Rattle.screen.specs.Depths.{Depths}
use Rattle.paint.specs.Summaries.{summary-at}
use Rattle.paint.specs.declared.command.reading.StoredRow.{StoredRow}
use Rattle.paint.specs.declared.command.marks.Mark.{Mark}
use Rattle.paint.specs.Painting.{word, StepOut, out, listed, painter-at, depth-step, command-step, depth-fill-at, fill-minima, settled}
use Rattle.paint.specs.Reading.{attrs_of, paint_mark, layer_mark}
use Rattle.paint.specs.Running.{own-step, one_more, run, finished_with}
use Rattle.rules.specs.Commands.{Command}
use Rattle.paint.specs.declared.whole.pieces.Pieces.{Pieces}
use Rattle.paint.specs.declared.whole.commands.Reached.{Reached}
use Rattle.paint.specs.declared.whole.run.Went.{Went}
use Rattle.paint.specs.Kinds.{Calm, Onward, place, Reaches}

abbrev pub steps_of : StoredRow → Depths → List ℕ → List ℕ → StepOut
steps_of r = own-step (bucket-tiles r.width) (attrs_of r.attrs) r.state.now r.render_cmds.now r.depth_cmds.now

-- the step of the depth fill at place k, and of a command
abbrev pub depth_step_of : StoredRow → ℕ → Depths → List ℕ → List ℕ → StepOut
depth_step_of r k d p l =
    let f = depth-fill-at (length d.words) r.depth_cmds.now k in
    settled (depth-step (bucket-tiles r.width) (attrs_of r.attrs) (painter-at d.words p) f) (fill-minima (attrs_of r.attrs) d f) d p l

abbrev pub command_step_of : StoredRow → Command → Depths → List ℕ → List ℕ → StepOut
command_step_of r c d p l =
    settled (command-step (bucket-tiles r.width) (attrs_of r.attrs) (summary-at r.state.now) (painter-at d.words p) (Some c)) d.minima d p l

-- the counts of its record have room, and its summary is in order
abbrev pub CalmRow : StoredRow → Type 0
CalmRow r = Calm r.state.now r.render_cmds.now r.depth_cmds.now

-- how many pieces a list has
abbrev pub count_of : Pieces → ℕ
count_of p = p.at / piece-size

-- its commands from `start` at nesting m, the pieces so far being p, up to where their run ended, with the pieces p'
abbrev pub Ran : StoredRow → Depths → ℕ → ℕ → Pieces → Reached → Pieces → Type 0
Ran r D start m p o p' = Reaches (steps_of r) D (word r.state.now 1) (place start (count_of p) m p.list.now) (place o.at (count_of p') o.nesting p'.list.now)

abbrev pub reached : ℕ → ℕ → Reached
reached a m = record { at = a; nesting = m }

-- the words of a list stay, and as many of them are pieces'
abbrev pub Stay : Pieces → Pieces → Type 0
Stay p q = (q.at ≡ p.at) × (q.list.now ≡ p.list.now)

-- its depth fill at place k is its next step, the pieces so far being p, and q after it
abbrev pub DepthStep : StoredRow → ℕ → Depths → Pieces → Depths → Pieces → Type 0
DepthStep r k D p E q =
    let d = word r.state.now 1 in (m : ℕ) → m ≤ most-layers → Onward (steps_of r) 1 (out (listed (count_of p)) D ((d - (k + 1)) ∷ m ∷ []) p.list.now)
    (out (listed (count_of q)) E ((d - k) ∷ m ∷ []) q.list.now)

-- what a fill's attribute says, a paint's or a layer's by the tag
abbrev pub mark_in : Attrs → ℕ → ℕ → Option Mark
mark_in a t i = cond (leb t 2) (paint_mark a i) (layer_mark a i)

-- the steps that a run did for sure, at most f, of the depth words and minima, painting words and list before it and those after it: they are steps of the row,
-- and the next one finds nothing left if the run says so
pub record Sure (r : StoredRow) (f : ℕ) (w : Went) (d : Depths) (p l : List ℕ) (d' : Depths) (p' l' : List ℕ) : Type 0 where
  pub few : w.steps ≤ f
  pub fits : piece-size * w.pieces ≤ length l'
  pub onward : Onward (steps_of r) w.steps (out (listed 0) d p l) (out (listed w.pieces) d' p' l')
  pub unended : w.ended ≡ true → w.steps < f
  pub ended : w.ended ≡ true → one_more (steps_of r) (out (listed w.pieces) d' p' l') ≡ out (finished_with w.pieces) d' p' l'

abbrev pub went : ℕ → ℕ → Bool → Went
went s n e = record { steps = s; pieces = n; ended = e }

-- at most f steps in all, after k that gave n pieces
abbrev pub run_on : StoredRow → ℕ → ℕ → ℕ → Depths → List ℕ → List ℕ → StepOut
run_on r f k n d p l = run (steps_of r) (f - k) k (out (listed n) d p l)
