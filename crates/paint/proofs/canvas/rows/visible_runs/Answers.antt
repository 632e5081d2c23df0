use Rattle.std.proofs.lemmas.Result.{err_from_is_err_and}
use Rattle.paint.proofs.ScreenRuns.{visible_refused}
use Rattle.paint.proofs.canvas.rows.visible_runs.Goals as goal

pub returns-in_err-judge_runs : goal.returns-in_err-judge_runs
returns-in_err-judge_runs c =
    let p = err_from_is_err_and c.from_residual.result c.from_residual.ensures.1 in
    rw (p.1, p.2) (visible_refused _ _ _ _ _ c.in_err-judge_runs.ensures _ _)
