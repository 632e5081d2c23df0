-- What the recording call leaves is left, and where it is done the recording is explained.
use Rattle.std.proofs.lemmas.Result.{err_from_is_err_and}
use Rattle.sizes.proofs.Refusals.{not_done}
use Rattle.tile.proofs.Explaining.{refused}
use Rattle.tile.proofs.call.why.Goals as goal

pub returns-in_err-bucket_recording-clause-explained : goal.returns-in_err-bucket_recording-clause-explained
returns-in_err-bucket_recording-clause-explained c =
    let p = err_from_is_err_and c.from_residual.result c.from_residual.ensures.1 in
    rw (p.1, p.2) (refused _ _ _ _ _ _ _ _ c.in_err-bucket_recording.ensures.recorded (not_done _))

pub returns-clause-explained : goal.returns-clause-explained
returns-clause-explained c = c.explain.ensures _ _ c.in_ok-bucket_recording.ensures.recorded
