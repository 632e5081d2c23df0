use Rattle.std.proofs.lemmas.Result.{err_from_is_err_and}
use Rattle.paint.proofs.ScreenParts.{part_length, state_within}
use Rattle.paint.proofs.ScreenRuns.{skip_refused}
use Rattle.paint.proofs.canvas.rows.can_skip.Goals as goal

pub returns-in_err-judge_skip : goal.returns-in_err-judge_skip
returns-in_err-judge_skip c =
    let p = err_from_is_err_and c.from_residual.result c.from_residual.ensures.1 in
    rw (p.1, p.2) (skip_refused _ _ _ _ _ _ c.in_err-judge_skip.ensures)

pub skip_by-requires : goal.skip_by-requires
skip_by-requires c = rw c.part.ensures (part_length 54 _ _ (state_within c.args.screen _ _ c.in_ok-judge_skip.ensures))
