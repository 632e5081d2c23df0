-- 3 for the form, then 2 for the viewport that the screen would have, or for its rows.
use Rattle.std.proofs.lemmas.Result.{err_from_is_err_and}
use Rattle.screen.specs.Screens.{setup-of}
use Rattle.text.proofs.FileTexts.{bad-form, bad-viewport, many-rows, good-size, few}
use Rattle.text.proofs.recording.size_of.Goals as goal

pub returns-in_err-recording-clause-value : goal.returns-in_err-recording-clause-value
returns-in_err-recording-clause-value c =
    let p = err_from_is_err_and c.from_residual.result c.from_residual.ensures.1 in
    rw (p.1, p.2) (bad-form _ (setup-of c.args.setup) c.in_err-recording.ensures)

pub returns-in_err-viewport-clause-value : goal.returns-in_err-viewport-clause-value
returns-in_err-viewport-clause-value c =
    let p = err_from_is_err_and c.from_residual-in_err-viewport.result c.from_residual-in_err-viewport.ensures.1 in
    rw (p.1, p.2) (bad-viewport _ (setup-of c.args.setup) c.in_ok-recording.ensures.1 c.viewport.ensures c.in_err-viewport.ensures)

pub returns-then-rows-gt-PROGRAM_ROWS-clause-value : goal.returns-then-rows-gt-PROGRAM_ROWS-clause-value
returns-then-rows-gt-PROGRAM_ROWS-clause-value c =
    many-rows _ (setup-of c.args.setup) c.in_ok-recording.ensures.1 c.viewport.ensures c.in_ok-viewport.ensures
    (rw c.fresh-screen.ensures at c.rows-rows.ensures) c.if-rows-gt-PROGRAM_ROWS.true

pub returns-clause-value : goal.returns-clause-value
returns-clause-value c =
    good-size _ (setup-of c.args.setup) c.in_ok-recording.ensures.1 c.viewport.ensures c.in_ok-viewport.ensures
    (rw c.fresh-screen.ensures at c.rows-rows.ensures) (rw c.fresh-screen.ensures at c.buckets.ensures) c.if-rows-gt-PROGRAM_ROWS.false

pub returns-clause-rows_le_program_rows : goal.returns-clause-rows_le_program_rows
returns-clause-rows_le_program_rows c = (
  c.if-rows-gt-PROGRAM_ROWS.false,
  few _ (setup-of c.args.setup) c.in_ok-recording.ensures.1 c.viewport.ensures c.in_ok-viewport.ensures (rw c.fresh-screen.ensures at c.buckets.ensures),
)
