-- The step's number decides: depth fills from the last, then commands from the first, then finished. In each part the words that are read are judged
-- before anything is written.
use Rattle.std.proofs.Common.{refl, sym, ◌∙◌, ◌-◌, arith}
use Rattle.std.proofs.lemmas.Result.{err_from_is_err_and}
use Rattle.paint.specs.Painting.{word}
use Rattle.paint.specs.Reading.{attrs_of}
use Rattle.paint.proofs.Judging.{ok_none, ok_some}
use Rattle.paint.proofs.Steps.{row_forged, then_depth, then_unread, then_command, then_finished, counts, command_good}
use Rattle.paint.proofs.command.step.step_row.Goals as goal

pub returns-then-is_forged-clause-step : goal.returns-then-is_forged-clause-step
returns-then-is_forged-clause-step c = row_forged _ (attrs_of c.args.row.now.attrs) _ _ _ _ _ _ _ (sym c.is_forged.ensures ∙ c.if-is_forged.true)

pub step_depth-requires-clause-k_in_bounds : goal.step_depth-requires-clause-k_in_bounds
step_depth-requires-clause-k_in_bounds c =
    let k = counts c.args.row.now.state.now c.args.row.now.render_cmds.now c.args.row.now.depth_cmds.now c.args.canvas.now.painting.now (sym c.is_forged.ensures ∙ c.if-is_forged.false) in
    omega (arith, k.depths, c.if-steps-depths.true)

pub returns-then-steps-depths-clause-step : goal.returns-then-steps-depths-clause-step
returns-then-steps-depths-clause-step c =
    then_depth _ (attrs_of c.args.row.now.attrs) _ _ _ _ _ _ _ (sym c.is_forged.ensures ∙ c.if-is_forged.false) _ _ c.if-steps-depths.true refl c.step_depth.ensures.step

pub returns-in_err-cmd-clause-step : goal.returns-in_err-cmd-clause-step
returns-in_err-cmd-clause-step c =
    let p = err_from_is_err_and c.from_residual.result c.from_residual.ensures.1 in
    let n = ok_none _ _ _ c.in_err-cmd.ensures.value in
    rw (p.1, p.2, n.1) (then_unread _ (attrs_of c.args.row.now.attrs) _ _ _ _ _ _ _ (sym c.is_forged.ensures ∙ c.if-is_forged.false) c.if-steps-depths.false c.if-k-renders.true _ (rw c.at-words.ensures at c.read.ensures) n.0)

pub step_command-requires-clause-good : goal.step_command-requires-clause-good
step_command-requires-clause-good c =
    command_good c.args.row.now.render_cmds.now (word c.args.canvas.now.painting.now 0 - word c.args.row.now.state.now 1) _ _ (rw c.at-words.ensures at c.read.ensures) (ok_some _ _ _ c.in_ok-cmd.ensures.value)

pub step_command-requires-clause-painting : goal.step_command-requires-clause-painting
step_command-requires-clause-painting c =
    let k = counts c.args.row.now.state.now c.args.row.now.render_cmds.now c.args.row.now.depth_cmds.now c.args.canvas.now.painting.now (sym c.is_forged.ensures ∙ c.if-is_forged.false) in
    (c.requires.lens.painting, omega (arith, k.renders, k.depths, k.steps))

pub returns-then-k-renders-clause-step : goal.returns-then-k-renders-clause-step
returns-then-k-renders-clause-step c =
    then_command _ (attrs_of c.args.row.now.attrs) _ _ _ _ _ _ _ (sym c.is_forged.ensures ∙ c.if-is_forged.false) c.if-steps-depths.false c.if-k-renders.true _ (rw c.at-words.ensures at c.read.ensures) _ _
    (ok_some _ _ _ c.in_ok-cmd.ensures.value) c.step_command.ensures.step

pub returns-clause-step : goal.returns-clause-step
returns-clause-step c =
    then_finished _ (attrs_of c.args.row.now.attrs) _ _ _ _ _ _ _ (sym c.is_forged.ensures ∙ c.if-is_forged.false) c.if-steps-depths.false c.if-k-renders.false c.requires.lens.painting
