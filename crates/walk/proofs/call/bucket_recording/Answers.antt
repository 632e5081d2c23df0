-- A refusal before the walk leaves what the rules' `play` leaves: 3, 2 and 1 alter nothing, 4 and 5 come after the reset. An accepted walk gives
-- its own words; after a refused one all is as the reset left it.
use Rattle.std.proofs.Common.{refl}
use Rattle.std.proofs.lemmas.Result.{err_from_is_err_and}
use Rattle.sizes.proofs.Refusals.{not_done}
use Rattle.screen.specs.Screens.{setup-of}
use Rattle.file.specs.Held.{held}
use Rattle.walk.proofs.Recordings.{bad-file, not-reset, all_done, can_clear, left_fresh}
use Rattle.walk.proofs.call.bucket_recording.Goals as goal

pub returns-in_err-recording-clause-recorded : goal.returns-in_err-recording-clause-recorded
returns-in_err-recording-clause-recorded c =
    let p = err_from_is_err_and c.from_residual.result c.from_residual.ensures.1 in
    rw (p.1, p.2, c.in_err-recording.ensures.0) (bad-file _ (setup-of c.args.setup) _ c.in_err-recording.ensures.1)

pub returns-in_err-fresh-clause-recorded : goal.returns-in_err-fresh-clause-recorded
returns-in_err-fresh-clause-recorded c =
    let p = err_from_is_err_and c.from_residual-in_err-fresh.result c.from_residual-in_err-fresh.ensures.1 in
    rw (p.1, p.2)
    (not-reset (held c.in_ok-recording.recording) _ c.in_ok-recording.ensures.1 _ c.viewport.ensures (setup-of c.args.setup) _ _ _
    (c.in_err-fresh.ensures.reset c.args.screen.now) (not_done _))

pub clear-requires : goal.clear-requires
clear-requires c =
    record {
      judged = can_clear (held c.in_ok-recording.recording) _ c.in_ok-recording.ensures.1 _ c.viewport.ensures (setup-of c.args.setup) _ _ _
          (c.in_ok-fresh.ensures.reset c.args.screen.now) refl _ _ c.in-Err.ensures.played c.in-Err.ensures.same.long c.in_ok-fresh.ensures.same.long;
    }

pub returns-in-Err-clause-recorded : goal.returns-in-Err-clause-recorded
returns-in-Err-clause-recorded c =
    left_fresh (held c.in_ok-recording.recording) _ c.in_ok-recording.ensures.1 _ c.viewport.ensures (setup-of c.args.setup) _ _ _
    (c.in_ok-fresh.ensures.reset c.args.screen.now) refl _ _ c.in-Err.ensures.played (not_done _) _
    c.in-Err.ensures.same.long c.in_ok-fresh.ensures.same.long c.clear.ensures.cleared

pub returns-clause-recorded : goal.returns-clause-recorded
returns-clause-recorded c =
    all_done (held c.in_ok-recording.recording) _ c.in_ok-recording.ensures.1 _ c.viewport.ensures (setup-of c.args.setup) _ _ _
    (c.in_ok-fresh.ensures.reset c.args.screen.now) refl _ _ c.in_default.ensures.played refl
