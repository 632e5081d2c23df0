-- The words have a form, their frame's viewport and their records are good and their walk is done, since the recording is accepted: so 12 comes
-- first, and the story is told to its end.
use Rattle.std.proofs.Common.{sym, ◌∙◌}
use Rattle.std.proofs.lemmas.Result.{err_from_is_err_and}
use Rattle.rules.proofs.All.{never}
use Rattle.screen.specs.Screens.{setup-of}
use Rattle.file.specs.Held.{file_of, held}
use Rattle.tile.proofs.Explaining.{view-seen, view-unseen}
use Rattle.text_why.proofs.Accepted.{formless, good-here, good-view, off-answer, told-of}
use Rattle.text_why.proofs.tell_words.Goals as goal

pub returns-in_err-recording : goal.returns-in_err-recording
returns-in_err-recording c =
    let a = c.args in
    let p = err_from_is_err_and c.from_residual.result c.from_residual.ensures.1 in
    rw (p.1, p.2) (formless (setup-of a.setup) (file_of a.file) c.requires.accepted a.row a.tile c.in_err-recording.ensures)

pub returns-in_err-viewport : goal.returns-in_err-viewport
returns-in_err-viewport c =
    let a = c.args in
    let u = setup-of a.setup in
    let r = held c.in_ok-recording.recording in
    let bad = view-unseen r u _ c.viewport.ensures c.in_err-viewport.ensures in
    never (sym (good-view u (file_of a.file) c.requires.accepted a.row a.tile r c.in_ok-recording.ensures.1) ∙ bad)

pub returns-then-is_off_screen : goal.returns-then-is_off_screen
returns-then-is_off_screen c =
    let a = c.args in
    let u = setup-of a.setup in
    let r = held c.in_ok-recording.recording in
    let view = view-seen r u _ c.viewport.ensures _ c.in_ok-viewport.ensures in
    off-answer u (file_of a.file) c.requires.accepted a.row a.tile r c.in_ok-recording.ensures.1 _ view (sym c.is_off_screen.ensures ∙ c.if-is_off_screen.true)

pub tell_tile-requires : goal.tell_tile-requires
tell_tile-requires c =
    let a = c.args in
    let u = setup-of a.setup in
    let r = held c.in_ok-recording.recording in
    let e = c.in_ok-recording.ensures in
    let view = view-seen r u _ c.viewport.ensures _ c.in_ok-viewport.ensures in
    record {
      ready = record { fits = e.0; good = good-here u (file_of a.file) c.requires.accepted a.row a.tile r e.1 };
      good = rw view at (good-view u (file_of a.file) c.requires.accepted a.row a.tile r e.1);
      on_screen = sym c.is_off_screen.ensures ∙ c.if-is_off_screen.false;
      room = c.requires.room;
    }

pub returns : goal.returns
returns c =
    let a = c.args in
    let u = setup-of a.setup in
    let r = held c.in_ok-recording.recording in
    let view = view-seen r u _ c.viewport.ensures _ c.in_ok-viewport.ensures in
    told-of u (file_of a.file) c.requires.accepted a.row a.tile r c.in_ok-recording.ensures.1 _ view (sym c.is_off_screen.ensures ∙ c.if-is_off_screen.false) _ _ _
    c.tell_tile.ensures
