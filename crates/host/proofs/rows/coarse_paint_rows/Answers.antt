-- Where the one look is sure, the rows in order are the call's.
use Rattle.std.proofs.Common.{rules, ◌∙◌}
use Rattle.paint.specs.Named.{row_lent, row_attrs}
use Rattle.paint.proofs.InOrder.{ranged, each_row, rows_done}
use Rattle.host.specs.Held.{words_in}
use Rattle.host.specs.PaintRows.{row_range}
use Rattle.host.proofs.PaintRows.{rows_screened}
use Rattle.host.proofs.rows.coarse_paint_rows.Goals as goal

pub rows_part-done-requires-clause-order : goal.rows_part-done-requires-clause-order
rows_part-done-requires-clause-order c = (ranged _ _ _ _ _ (c.sure_rows-b.ensures c.if-b-gt64.false).0).order

pub rows_part-done-requires-clause-ready : goal.rows_part-done-requires-clause-ready
rows_part-done-requires-clause-ready c q f l = rw c.screen_at.ensures (each_row _ _ _ _ _ (ranged _ _ _ _ _ (c.sure_rows-b.ensures c.if-b-gt64.false).0) q l)

pub rows_part-done-requires-clause-ends : goal.rows_part-done-requires-clause-ends
rows_part-done-requires-clause-ends c = (ranged _ _ _ _ _ (c.sure_rows-b.ensures c.if-b-gt64.false).0).room

pub returns-clause-rows : goal.returns-clause-rows
returns-clause-rows c =
    let q = c.sure_rows-b.ensures c.if-b-gt64.false in
    let a = c.args in
    let d = rw c.screen_at.ensures at c.rows_part-done.ensures.painted in
    rows_screened (row_range a.first a.end) (row_attrs a.stored.now) (words_in a.state.now) (row_lent a.stored.now a.canvas.now a.list.now) a.ends.now
    _ q.1 _ (d ∙ rows_done _ _ _ _ _ q.0) _ _ _ _ _ _ _ (rw c.asked.ensures at c.put_rows.ensures _ _ _)
