use Rattle.std.proofs.lemmas.Result.{err_from_is_err_and}
use Rattle.paint.proofs.ScreenParts.{minima_within}
use Rattle.paint.proofs.ScreenRuns.{hidden_refused, hidden_done}
use Rattle.paint.proofs.canvas.rows.is_hidden.Goals as goal

pub returns-in_err-judge_hidden : goal.returns-in_err-judge_hidden
returns-in_err-judge_hidden c =
    let p = err_from_is_err_and c.from_residual.result c.from_residual.ensures.1 in
    rw (p.1, p.2) (hidden_refused _ _ _ _ _ _ c.in_err-judge_hidden.ensures)

pub part-requires : goal.part-requires
part-requires c = rw (c.minima_room.ensures, c.buckets-b.ensures) (minima_within c.args.screen c.args.row _ c.in_ok-judge_hidden.ensures).ends

pub returns : goal.returns
returns c =
    let w = minima_within c.args.screen c.args.row _ c.in_ok-judge_hidden.ensures in
    hidden_done _ _ _ _ _ c.in_ok-judge_hidden.ensures w _ _ c.buckets-b.ensures c.minima_room.ensures _ c.part.ensures _ c.is_hidden.ensures
