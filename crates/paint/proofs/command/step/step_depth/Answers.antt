-- The fill's words are judged, then its attribute; its unset runs become pieces and its id is written.
use Rattle.std.proofs.Common.{sym, ◌∙◌, arith}
use Rattle.std.proofs.lemmas.Result.{err_from_is_err_and}
use Rattle.paint.specs.Reading.{attrs_of}
use Rattle.paint.proofs.Judging.{ok_none, ok_some, paint_some}
use Rattle.paint.proofs.Steps.{depth_unread, depth_forged, depth_taken, depth_good}
use Rattle.paint.proofs.command.step.step_depth.Goals as goal

pub returns-in_err-fill-clause-step : goal.returns-in_err-fill-clause-step
returns-in_err-fill-clause-step c =
    let p = err_from_is_err_and c.from_residual.result c.from_residual.ensures.1 in
    let n = ok_none _ _ _ c.in_err-fill.ensures.value in
    rw (p.1, p.2, n.1) (depth_unread _ _ _ _ _ _ _ _ (rw c.at-words.ensures at c.read.ensures) n.0)

pub returns-in_err-mark-clause-step : goal.returns-in_err-mark-clause-step
returns-in_err-mark-clause-step c =
    let p = err_from_is_err_and c.from_residual-in_err-mark.result c.from_residual-in_err-mark.ensures.1 in
    let n = ok_none _ _ _ c.in_err-mark.ensures.value in
    rw (p.1, p.2, n.1) (depth_forged _ (attrs_of c.args.row.now.attrs) _ _ _ _ _ _ (rw c.at-words.ensures at c.read.ensures) _ (ok_some _ _ _ c.in_ok-fill.ensures.value) (sym c.paint.ensures ∙ n.0))

pub paint_depth-requires-clause-first_bound : goal.paint_depth-requires-clause-first_bound
paint_depth-requires-clause-first_bound c =
    let g = depth_good _ _ _ _ _ (rw c.at-words.ensures at c.read.ensures) (ok_some _ _ _ c.in_ok-fill.ensures.value) in
    (g.0, g.1, omega (arith, g.1, c.requires.lens.few), paint_some (attrs_of c.args.row.now.attrs) c.in_ok-fill.fill.attrs_idx _ (sym c.paint.ensures ∙ ok_some _ _ _ c.in_ok-mark.ensures.value))

pub returns-clause-step : goal.returns-clause-step
returns-clause-step c =
    depth_taken _ (attrs_of c.args.row.now.attrs) c.args.canvas.now.depth.now c.args.canvas.now.minima.now c.args.canvas.now.painting.now c.args.list.now _ _ (rw c.at-words.ensures at c.read.ensures) _ (ok_some _ _ _ c.in_ok-fill.ensures.value) _ _
    (sym c.paint.ensures ∙ ok_some _ _ _ c.in_ok-mark.ensures.value) c.paint_depth.ensures.painted
