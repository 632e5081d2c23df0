-- A fill gives its runs, a PushBuf and a PopBuf change the nesting; a bad one is answered by its number.
use Rattle.std.proofs.Common.{sym, ◌∙◌}
use Rattle.std.proofs.lemmas.Result.{err_from_is_err_and}
use Rattle.paint.specs.Reading.{attrs_of}
use Rattle.paint.proofs.Judging.{ok_none}
use Rattle.paint.proofs.Steps.{paint_forged, layer_forged, push_done, pop_done}
use Rattle.paint.proofs.command.step.step_command.Goals as goal

pub returns-in_err-mark-in-PaintFill-clause-step : goal.returns-in_err-mark-in-PaintFill-clause-step
returns-in_err-mark-in-PaintFill-clause-step c =
    let p = err_from_is_err_and c.from_residual.result c.from_residual.ensures.1 in
    let n = ok_none _ _ _ c.in_err-mark-in-PaintFill.ensures.value in
    rw (p.1, p.2, n.1) (paint_forged _ (attrs_of c.args.row.now.attrs) _ _ _ _ _ _ _ c.in-PaintFill.is (sym c.paint.ensures ∙ n.0))

pub returns-in_err-mark-in-LayerFill-clause-step : goal.returns-in_err-mark-in-LayerFill-clause-step
returns-in_err-mark-in-LayerFill-clause-step c =
    let p = err_from_is_err_and c.from_residual-in_err-mark-in-LayerFill.result c.from_residual-in_err-mark-in-LayerFill.ensures.1 in
    let n = ok_none _ _ _ c.in_err-mark-in-LayerFill.ensures.value in
    rw (p.1, p.2, n.1) (layer_forged _ (attrs_of c.args.row.now.attrs) _ _ _ _ _ _ _ c.in-LayerFill.is (sym c.layer.ensures ∙ n.0))

pub returns-else-nesting-ge-MOST_LAYERS-clause-step : goal.returns-else-nesting-ge-MOST_LAYERS-clause-step
returns-else-nesting-ge-MOST_LAYERS-clause-step c =
    push_done _ (attrs_of c.args.row.now.attrs) _ _ c.args.canvas.now.painting.now _ _ _ _ c.in-PushBuf.is _ _ c.if-nesting-ge-MOST_LAYERS.false c.advance.ensures

pub returns-else-nesting-eq0-clause-step : goal.returns-else-nesting-eq0-clause-step
returns-else-nesting-eq0-clause-step c =
    pop_done _ (attrs_of c.args.row.now.attrs) _ _ c.args.canvas.now.painting.now _ _ _ c.in-PopBuf.is _ _ c.if-nesting-eq0.false c.advance-in-PopBuf.ensures
