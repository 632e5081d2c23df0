-- The form comes first, then the viewport, the records and their order, the panels, the room; then all is put.
use Rattle.std.proofs.Common.{arith, sym, ◌∙◌}
use Rattle.std.proofs.lemmas.Result.{err_from_is_err_and}
use Rattle.sizes.proofs.Refusals.{not_done}
use Rattle.rect.specs.Rects.{mode_of}
use Rattle.file.specs.Held.{file_of, held}
use Rattle.convert.proofs.Converting.{bad-form, formed, seen-good, seen-bad, bad-viewport, bad-records, has-panels, no-room, done}
use Rattle.convert.proofs.call.convert.Goals as goal

pub returns-in_err-recording : goal.returns-in_err-recording
returns-in_err-recording c =
    let p = err_from_is_err_and c.from_residual.result c.from_residual.ensures.1 in
    rw (p.1, p.2, c.in_err-recording.ensures.0) (bad-form (mode_of c.args.mode) c.args.to (file_of c.args.file) c.args.out.now c.in_err-recording.ensures.1)

pub returns-in_err-viewport_in : goal.returns-in_err-viewport_in
returns-in_err-viewport_in c =
    let p = err_from_is_err_and c.from_residual-in_err-viewport_in.result c.from_residual-in_err-viewport_in.ensures.1 in
    let v = seen-bad (mode_of c.args.mode) (held c.in_ok-recording.recording) c.viewport.ensures c.in_err-viewport_in.ensures in
    rw (p.1, p.2, v.1) (bad-viewport (mode_of c.args.mode) c.args.to (file_of c.args.file) c.args.out.now (held c.in_ok-recording.recording) c.in_ok-recording.ensures.1 v.0)

pub returns-in_err-judge : goal.returns-in_err-judge
returns-in_err-judge c =
    let p = err_from_is_err_and c.from_residual-in_err-judge.result c.from_residual-in_err-judge.ensures.1 in
    let v = seen-good (mode_of c.args.mode) (held c.in_ok-recording.recording) c.viewport.ensures c.in_ok-viewport_in.ensures in
    rw (p.1, p.2) (bad-records (mode_of c.args.mode) c.args.to (file_of c.args.file) c.args.out.now (held c.in_ok-recording.recording) c.in_ok-recording.ensures.1 v _ (not_done _) c.in_err-judge.ensures)

pub is_kept-requires : goal.is_kept-requires
is_kept-requires c = formed (mode_of c.args.mode) c.args.to (file_of c.args.file) c.args.out.now (held c.in_ok-recording.recording) c.in_ok-recording.ensures.1

pub returns-then-not-is_kept : goal.returns-then-not-is_kept
returns-then-not-is_kept c =
    let v = seen-good (mode_of c.args.mode) (held c.in_ok-recording.recording) c.viewport.ensures c.in_ok-viewport_in.ensures in
    has-panels (mode_of c.args.mode) c.args.to (file_of c.args.file) c.args.out.now (held c.in_ok-recording.recording) c.in_ok-recording.ensures.1 v c.in_ok-judge.ensures (sym c.is_kept.ensures ∙ c.if-not-is_kept.true)

pub returns-then-out-length : goal.returns-then-out-length
returns-then-out-length c =
    let r = held c.in_ok-recording.recording in
    let v = seen-good (mode_of c.args.mode) r c.viewport.ensures c.in_ok-viewport_in.ensures in
    let k = sym c.is_kept.ensures ∙ c.if-not-is_kept.false in
    no-room (mode_of c.args.mode) c.args.to (file_of c.args.file) c.args.out.now r c.in_ok-recording.ensures.1 v c.in_ok-judge.ensures k (omega (arith, c.converted_length-length.ensures))

pub returns : goal.returns
returns c =
    let r = held c.in_ok-recording.recording in
    let v = seen-good (mode_of c.args.mode) r c.viewport.ensures c.in_ok-viewport_in.ensures in
    let k = sym c.is_kept.ensures ∙ c.if-not-is_kept.false in
    rw c.converted_length-length.ensures
    (done (mode_of c.args.mode) c.args.to (file_of c.args.file) c.args.out.now r c.in_ok-recording.ensures.1 v c.in_ok-judge.ensures k (omega (arith, c.converted_length-length.ensures)) c.put_file.new.out c.put_file.ensures)
