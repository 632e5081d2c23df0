-- The screen and the lengths are judged once, for every row of the range.
use Rattle.std.proofs.Common.{sym, ◌∙◌}
use Rattle.paint.proofs.InOrder.{ranged, each_row, rows_refused, rows_done}
use Rattle.paint.proofs.rows.paint_rows.Goals as goal

pub returns-in-Err-clause-painted : goal.returns-in-Err-clause-painted
returns-in-Err-clause-painted c = rows_refused _ _ _ _ _ c.in-Err.refusal c.in-Err.ensures

pub rows_part-requires-clause-order : goal.rows_part-requires-clause-order
rows_part-requires-clause-order c = (ranged _ _ _ _ _ (sym c.in_default.ensures)).order

pub rows_part-requires-clause-ready : goal.rows_part-requires-clause-ready
rows_part-requires-clause-ready c q f l = each_row _ _ _ _ _ (ranged _ _ _ _ _ (sym c.in_default.ensures)) q l

pub rows_part-requires-clause-ends : goal.rows_part-requires-clause-ends
rows_part-requires-clause-ends c = (ranged _ _ _ _ _ (sym c.in_default.ensures)).room

pub returns-clause-painted : goal.returns-clause-painted
returns-clause-painted c = c.rows_part.ensures.painted ∙ rows_done _ _ _ _ _ (sym c.in_default.ensures)
