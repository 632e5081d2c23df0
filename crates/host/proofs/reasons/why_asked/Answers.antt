-- Words that ask for no setup are refused. Where the state's words stand for no screen, or the question is none, the border answers; else the call's own
-- equation, carried over to the words.
use Rattle.std.proofs.Common.{rules}
use Rattle.screen.specs.Screens.{setup-of}
use Rattle.screen.specs.Tables.{Tables}
use Rattle.screen.specs.Lent.{tables_in}
use Rattle.file.specs.Held.{file_of}
use Rattle.host.specs.Held.{words_in, reason_in}
use Rattle.host.proofs.HostAsked.{why-asked}
use Rattle.host.proofs.Questions.{why_unheld, why_built}
use Rattle.host.proofs.reasons.why_asked.Goals as goal

pub returns-in_default-clause-explained : goal.returns-in_default-clause-explained
returns-in_default-clause-explained c =
    let t : Tables = tables_in c.args.tables.now in
    let q = setup-of c.in-Ok.wanted in
    let a = c.args in
    let f = file_of a.file in
    let e = why-asked _ q c.in-Ok.ensures f a.question.now.row a.question.now.tile a.question.now.layer a.question.now.attribute (words_in a.state.now) t (reason_in a.reason.now)
    (why_unheld f q a.question.now.row a.question.now.tile a.question.now.layer a.question.now.attribute (words_in a.state.now) t (reason_in a.reason.now) _
    (rw c.is_good_question-good.ensures at c.in_default.ensures) c.refuse_recording.ensures) in
    search (rules, e)

pub returns-clause-explained : goal.returns-clause-explained
returns-clause-explained c =
    let t : Tables = tables_in c.args.tables.now in
    let e = why-asked _ (setup-of c.in-Ok.wanted) c.in-Ok.ensures _ _ _ _ _ _ t _
    (why_built _ _ _ _ _ _ _ t _ _ _ _ _ _ _ _ _
    (rw c.is_good_question-good.ensures at c.in-Some.ensures) c.put_screen.ensures c.put_reason.ensures c.why-told.ensures.explained) in
    search (rules, e)
