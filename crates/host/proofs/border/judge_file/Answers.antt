-- The form, then the reset to the file's viewport.
use Rattle.std.proofs.lemmas.Result.{err_from_is_err_and}
use Rattle.screen.specs.Screens.{setup-of}
use Rattle.file.specs.Held.{held}
use Rattle.host.proofs.Ways.{no-file, a-file}
use Rattle.host.proofs.border.judge_file.Goals as goal

pub returns-in_err-recording : goal.returns-in_err-recording
returns-in_err-recording c =
    let p = err_from_is_err_and c.from_residual.result c.from_residual.ensures.1 in
    rw (p.1, p.2, c.in_err-recording.ensures.0) (no-file _ _ _ c.in_err-recording.ensures.1)

pub returns : goal.returns
returns c =
    a-file _ (held c.in_ok-recording.recording) c.in_ok-recording.ensures.1 _ c.viewport.ensures (setup-of c.args.setup) _ _ c.judge_arenas.ensures
