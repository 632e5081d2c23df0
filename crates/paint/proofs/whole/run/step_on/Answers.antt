use Rattle.std.proofs.Common.{add-zero, arith}
use Rattle.std.proofs.lemmas.Result.{err_from_is_err_and}
use Rattle.paint.proofs.WholeRuns.{one-done, one-few}
use Rattle.paint.proofs.whole.run.step_on.Goals as goal

pub returns-in_err-step-clause-list_after : goal.returns-in_err-step-clause-list_after
returns-in_err-step-clause-list_after c =
    let p = err_from_is_err_and c.from_residual.result c.from_residual.ensures.1 in
    rw (p.1, p.2) (rw add-zero at (one-done _ _ _ _ _ _ _ c.args.list.now _ c.requires.pieces_in_bounds _ _ _ _ c.in_err-step.ensures.step))

pub returns-in_err-step-clause-pieces_in_bounds_2 : goal.returns-in_err-step-clause-pieces_in_bounds_2
returns-in_err-step-clause-pieces_in_bounds_2 c =
    let p = err_from_is_err_and c.from_residual.result c.from_residual.ensures.1 in
    rw p.1 c.requires.pieces_in_bounds

pub overflow_add-result : goal.overflow_add-result
overflow_add-result c =
    record { fits = omega (arith, one-few _ _ _ _ _ _ _ c.args.list.now _ c.requires.pieces_in_bounds _ _ _ _ c.in_ok-step.ensures.step, c.well_formed) }

pub returns-clause-list_after : goal.returns-clause-list_after
returns-clause-list_after c = one-done _ _ _ _ _ _ _ _ _ c.requires.pieces_in_bounds _ _ _ _ c.in_ok-step.ensures.step

pub returns-clause-pieces_in_bounds_2 : goal.returns-clause-pieces_in_bounds_2
returns-clause-pieces_in_bounds_2 c = one-few _ _ _ _ _ _ _ _ _ c.requires.pieces_in_bounds _ _ _ _ c.in_ok-step.ensures.step
