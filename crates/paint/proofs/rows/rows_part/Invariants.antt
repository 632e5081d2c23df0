-- So far no row has stopped, and those that are left, on what is left of the list, give what all of them do.
use Rattle.std.proofs.Common.{◌≡◌, ◌-◌, ◌*◌, ◌≤◌, length}
use Rattle.sizes.specs.Sizes.{piece-size}
use Rattle.paint.specs.Painting.{listed}
use Rattle.paint.specs.Named.{SameCanvas, step_out}
use Rattle.paint.specs.InOrder.{row_calls, rows_in_order, in-order-of}
use Rattle.paint.proofs.rows.rows_part.Given as goal

abbrev pub invariant-loop-row : goal.invariant-loop-row
invariant-loop-row l = record {
  same : SameCanvas l.initial.canvas l.canvas;
  few : piece-size * l.pieces ≤ length l.list;
  rest : rows_in_order (row_calls l.screen l.stored) (l.rows.end - l.row) l.row (l.row - l.rows.first) l.ends (step_out (listed l.pieces) l.canvas l.list)
      ≡ in-order-of l.screen l.rows l.stored l.initial.canvas l.initial.list l.initial.ends;
}
