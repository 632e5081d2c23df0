-- Where the state's words stand for no screen the border answers; else the call's own equation, carried over to the words.
use Rattle.std.proofs.Common.{rules, sym}
use Rattle.host.specs.Held.{words_in}
use Rattle.paint.specs.Named.{row_lent, row_attrs}
use Rattle.host.proofs.PaintRows.{rows_unheld, rows_screened}
use Rattle.host.proofs.rows.judged_rows.Goals as goal

pub returns-in_default-clause-rows : goal.returns-in_default-clause-rows
returns-in_default-clause-rows c =
    let a = c.args in
    rows_unheld a.rows (row_attrs a.stored.now) (words_in a.state.now) (row_lent a.stored.now a.canvas.now a.list.now) a.ends.now _ c.in_default.ensures c.refuse_rows.ensures

pub returns-clause-rows : goal.returns-clause-rows
returns-clause-rows c =
    rows_screened _ _ _ _ _ _ c.in-Some.ensures _ c.paint_rows-done.ensures.painted _ _ _ _ _ _ _ (rw c.asked.ensures at c.put_rows.ensures _ _ _)
