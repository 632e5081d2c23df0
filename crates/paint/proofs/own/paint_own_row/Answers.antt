-- The row's words are those of a screen of one row.
use Rattle.std.proofs.Common.{sym}
use Rattle.std.proofs.lemmas.Result.{err_from_is_err_and}
use Rattle.paint.specs.Named.{row_lent, row_attrs}
use Rattle.paint.proofs.OwnRow.{own-ready, own_refused, own_done}
use Rattle.paint.proofs.own.paint_own_row.Goals as goal

pub returns-in_err-judge_own-clause-painted : goal.returns-in_err-judge_own-clause-painted
returns-in_err-judge_own-clause-painted c =
    let p = err_from_is_err_and c.from_residual.result c.from_residual.ensures.1 in
    let a = c.args in
    rw (p.1, p.2) (own_refused a.screen (row_attrs a.stored.now) (row_lent a.stored.now a.canvas.now a.list.now) _ c.in_err-judge_own.ensures)

pub row_part-requires-clause-ready : goal.row_part-requires-clause-ready
row_part-requires-clause-ready c = own-ready _ _ _ (sym c.in_ok-judge_own.ensures)

pub returns-clause-painted : goal.returns-clause-painted
returns-clause-painted c = own_done _ _ _ _ c.in_ok-judge_own.ensures c.row_part.ensures.painted
