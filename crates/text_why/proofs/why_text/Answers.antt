-- Where the file is refused, the refusal is printed as `rowlist` prints it; else the answer, over what was written before.
use Rattle.std.proofs.Common.{sym, ◌∙◌, arith}
use Rattle.screen.specs.Screens.{setup-of}
use Rattle.text_why.specs.Questions.{question-of}
use Rattle.text_files.proofs.Laws.{first_taken, is-refused, is-done}
use Rattle.text_why.proofs.Files.{refused-text, accepted-file}
use Rattle.text_why.proofs.why_text.Goals as goal

pub returns-then-is_err-clause-value : goal.returns-then-is_err-clause-value
returns-then-is_err-clause-value c =
    let a = c.args in
    let listed = c.list_file-text.ensures in
    (refused-text a.file.edition (setup-of a.setup) a.file.bytes.now a.row a.tile (question-of a.question) a.out.now
    (λ z. is-refused _ (sym c.is_err.ensures.value ∙ c.if-is_err.true) (listed.number_value.0 ∙ z)) listed.number_value.1 listed.out_after).0

pub returns-then-is_err-clause-out_after : goal.returns-then-is_err-clause-out_after
returns-then-is_err-clause-out_after c =
    let a = c.args in
    let listed = c.list_file-text.ensures in
    (refused-text a.file.edition (setup-of a.setup) a.file.bytes.now a.row a.tile (question-of a.question) a.out.now
    (λ z. is-refused _ (sym c.is_err.ensures.value ∙ c.if-is_err.true) (listed.number_value.0 ∙ z)) listed.number_value.1 listed.out_after).1

pub accepted_text-requires : goal.accepted_text-requires
accepted_text-requires c =
    let a = c.args in
    let accepted = accepted-file a.file.edition (setup-of a.setup) a.file.bytes.now a.row a.tile (question-of a.question)
    (sym c.list_file-text.ensures.number_value.0 ∙ is-done _ (sym c.is_err.ensures.value ∙ c.if-is_err.false)) in
    record { short = accepted.few; accepted = accepted.done; room = omega arith }

pub returns-clause-value : goal.returns-clause-value
returns-clause-value c =
    let a = c.args in
    let accepted = accepted-file a.file.edition (setup-of a.setup) a.file.bytes.now a.row a.tile (question-of a.question)
    (sym c.list_file-text.ensures.number_value.0 ∙ is-done _ (sym c.is_err.ensures.value ∙ c.if-is_err.false)) in
    rw accepted.text c.accepted_text.ensures.value

pub returns-clause-out_after : goal.returns-clause-out_after
returns-clause-out_after c =
    let a = c.args in
    let accepted = accepted-file a.file.edition (setup-of a.setup) a.file.bytes.now a.row a.tile (question-of a.question)
    (sym c.list_file-text.ensures.number_value.0 ∙ is-done _ (sym c.is_err.ensures.value ∙ c.if-is_err.false)) in
    let t = c.accepted_text.ensures in
    rw accepted.text (first_taken _ _ _ _ t.value t.out_after)
