use Rattle.std.proofs.Common.{sym, ◌∙◌}
use Rattle.file.specs.Held.{file_of, held}
use Rattle.screen.specs.Screens.{setup-of}
use Rattle.tally.proofs.Needed.{bad-form, bad-view, good, its-words}
use Rattle.tally.proofs.recordings.needed_words.Goals as goal

pub returns-in_default : goal.returns-in_default
returns-in_default c =
    let h = rw c.in_default.is at c.read.ensures in
    c.no_words.ensures ∙ bad-form (file_of c.args.file) (setup-of c.args.setup) h.1

pub returns-in_default-viewport_in : goal.returns-in_default-viewport_in
returns-in_default-viewport_in c =
    let h = rw c.in-Ok.is at c.read.ensures in
    c.no_words-in_default-viewport_in.ensures
    ∙ bad-view (file_of c.args.file) (setup-of c.args.setup) (held c.in-Ok.recording) h.1 c.viewport.result c.viewport.ensures _
    (sym c.viewport_in.ensures ∙ c.in_default-viewport_in.is)

pub lengths_for-requires : goal.lengths_for-requires
lengths_for-requires c =
    let h = rw c.in-Ok.is at c.read.ensures in
    rw c.fresh.ensures
    (good (file_of c.args.file) (setup-of c.args.setup) (held c.in-Ok.recording) h.1 c.viewport.result c.viewport.ensures _
    (sym c.viewport_in.ensures ∙ c.in-Ok-viewport_in.is))

pub returns : goal.returns
returns c =
    let h = rw c.in-Ok.is at c.read.ensures in
    its-words (file_of c.args.file) (setup-of c.args.setup) (held c.in-Ok.recording) h.1 c.viewport.result c.viewport.ensures _
    (sym c.viewport_in.ensures ∙ c.in-Ok-viewport_in.is) _ (rw c.fresh.ensures at c.lengths_for.ensures)
