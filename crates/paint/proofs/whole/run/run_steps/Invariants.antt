-- So far each step is the row's next, and what is left of the run gives what all of it does.
use Rattle.std.proofs.Common.{◌≡◌, ◌-◌, ◌≤◌, ◌*◌, length}
use Rattle.sizes.specs.Sizes.{piece-size}
use Rattle.paint.specs.Painting.{listed}
use Rattle.paint.specs.Named.{SameRow, row_out, own-depths}
use Rattle.paint.specs.Rows.{steps_of, run_on}
use Rattle.paint.proofs.WholeRuns.{Rest}
use Rattle.paint.proofs.whole.run.run_steps.Given as goal

abbrev pub invariant-loop-steps : goal.invariant-loop-steps
invariant-loop-steps l = record {
  rest : Rest (steps_of l.row) l.limit (run_on l.row l.limit l.initial.steps l.initial.pieces (own-depths l.initial.canvas) l.initial.canvas.painting.now l.initial.list) (row_out (listed l.pieces) l.canvas l.list) l.steps;
  same : SameRow l.initial.canvas l.canvas;
  few : piece-size * l.pieces ≤ length l.list;
  none : l.steps ≡ 0 → l.pieces ≡ 0;
}

abbrev pub decreases-loop-steps : goal.decreases-loop-steps
decreases-loop-steps l = l.limit - l.steps
