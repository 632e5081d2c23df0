use Rattle.std.proofs.Common.{sym, ◌∙◌}
use Rattle.std.proofs.lemmas.Result.{err_from_is_err_and}
use Rattle.screen.specs.Depths.{depths_in}
use Rattle.paint.specs.Painting.{words_lent}
use Rattle.paint.specs.Stepping.{attributes}
use Rattle.paint.proofs.ScreenParts.{ready, step_refused, step_done}
use Rattle.paint.proofs.WholeParts.{step-is-run}
use Rattle.paint.proofs.whole.paint_step.Goals as goal

pub returns-in_err-judge_step-clause-step : goal.returns-in_err-judge_step-clause-step
returns-in_err-judge_step-clause-step c =
    let p = err_from_is_err_and c.from_residual.result c.from_residual.ensures.1 in
    let a = c.args in
    let s = a.stored.now in
    rw (p.1, p.2) (step_refused a.screen a.row (attributes s.paint_attrs.now s.layer_attrs.now) (words_lent s.rows.now s.render_cmds.now s.depth_cmds.now (depths_in a.canvas.now.depth) a.canvas.now.painting.now a.list.now) _ c.in_err-judge_step.ensures)

pub row_part-requires-clause-ready : goal.row_part-requires-clause-ready
row_part-requires-clause-ready c = ready _ _ _ _ (sym c.in_ok-judge_step.ensures)

pub returns-clause-step : goal.returns-clause-step
returns-clause-step c = step_done _ _ _ _ _ c.in_ok-judge_step.ensures (c.row_part.ensures.painted ∙ step-is-run _ _ _ _)
