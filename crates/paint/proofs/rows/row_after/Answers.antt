-- A row's call on what is left of the list: its words are put back, and its pieces stand after those so far.
use Rattle.std.proofs.Common.{arith, add-zero}
use Rattle.std.proofs.lemmas.Result.{err_from_is_err_and}
use Rattle.paint.proofs.ScreenParts.{ready}
use Rattle.paint.proofs.InOrder.{row-more, row-fits}
use Rattle.paint.proofs.rows.row_after.Goals as goal

pub row_part-requires-clause-ready : goal.row_part-requires-clause-ready
row_part-requires-clause-ready c = ready _ _ _ _ c.requires.ready

pub returns-in_err-done-clause-painted : goal.returns-in_err-done-clause-painted
returns-in_err-done-clause-painted c =
    let p = err_from_is_err_and c.from_residual.result c.from_residual.ensures.1 in
    rw (p.1, p.2) (rw add-zero at (row-more _ _ _ _ _ _ _ _ c.args.list.now c.requires.ready c.args.pieces c.requires.pieces _ _ _ c.row_part.new.list c.in_err-done.ensures.painted))

pub overflow_add-result : goal.overflow_add-result
overflow_add-result c =
    record { fits = omega (arith, c.well_formed, row-fits _ _ _ _ _ _ _ _ c.args.list.now c.requires.ready c.args.pieces c.requires.pieces _ _ _ c.row_part.new.list c.in_ok-done.ensures.painted) }

pub returns-clause-painted : goal.returns-clause-painted
returns-clause-painted c = row-more _ _ _ _ _ _ _ _ c.args.list.now c.requires.ready c.args.pieces c.requires.pieces _ _ _ c.row_part.new.list c.in_ok-done.ensures.painted

pub returns-clause-fits : goal.returns-clause-fits
returns-clause-fits c = row-fits _ _ _ _ _ _ _ _ c.args.list.now c.requires.ready c.args.pieces c.requires.pieces _ _ _ c.row_part.new.list c.in_ok-done.ensures.painted
