-- A number that says no edition is refused, then words that ask for no setup. Where the state's words stand for no screen the border answers; else the call's own
-- equation, carried over to the words.
use Rattle.std.proofs.Common.{rules}
use Rattle.screen.specs.Screens.{setup-of}
use Rattle.screen.specs.Tables.{Tables}
use Rattle.screen.specs.Lent.{tables_in}
use Rattle.host.proofs.HostAsked.{recording_told, recording_unasked, recording-asked}
use Rattle.host.proofs.Built.{recording_built}
use Rattle.host.proofs.Unheld.{recording_unheld}
use Rattle.host.proofs.build.coarse_bucket_recording.Goals as goal

pub returns-in-Err-read_setup-clause-recorded : goal.returns-in-Err-read_setup-clause-recorded
returns-in-Err-read_setup-clause-recorded c =
    rw c.refuse_setup.ensures (recording_told _ _ _ c.in-Ok.ensures _ _ (recording_unasked _ _ c.in-Err-read_setup.ensures _ _ _))

pub returns-in_default-clause-recorded : goal.returns-in_default-clause-recorded
returns-in_default-clause-recorded c =
    let t : Tables = tables_in c.args.tables.now in
    let e = recording_told _ _ _ c.in-Ok.ensures _ t
    (recording-asked _ (setup-of c.in-Ok-read_setup.asked) c.in-Ok-read_setup.ensures _ _ t (recording_unheld _ _ _ _ t c.in_default.ensures c.refuse_recording.ensures)) in
    search (rules, e)

pub returns-clause-recorded : goal.returns-clause-recorded
returns-clause-recorded c =
    let t : Tables = tables_in c.args.tables.now in
    let e = recording_told _ _ _ c.in-Ok.ensures _ t
    (recording-asked _ (setup-of c.in-Ok-read_setup.asked) c.in-Ok-read_setup.ensures _ _ t
    (recording_built _ _ _ _ _ _ c.in-Some.ensures c.leave.ensures.0 c.leave.ensures.1 _ _ t _ c.bucket_recording-done.ensures.recorded)) in
    search (rules, e)
