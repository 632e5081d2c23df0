-- What is told answers the question, or the refusal does.
use Rattle.std.proofs.Common.{◌+◌, arith}
use Rattle.rules.specs.Lines.{refused}
use Rattle.text.proofs.Lengths.{line-few}
use Rattle.text_why.specs.Questions.{question-of, read_by}
use Rattle.text_why.proofs.Lines.{answer-few}
use Rattle.text_why.proofs.words_text.Goals as goal

pub returns-in-Ok : goal.returns-in-Ok
returns-in-Ok c = rw (c.in-Ok.ensures.1 (question-of c.args.question)) (record { value = c.print_first.ensures.value; out_after = c.print_first.ensures.out_after })

pub returns-in-Err : goal.returns-in-Err
returns-in-Err c =
    let e = c.print_first-in-Err.ensures in
    rw (c.in-Err.ensures (question-of c.args.question), ← c.number.ensures) (record { value = e.value; out_after = e.out_after })

pub print_first-requires-clause-within : goal.print_first-requires-clause-within
print_first-requires-clause-within c =
    let low = c.in-Ok.ensures.0 in
    omega (arith, answer-few (read_by c.tell_words.new.lines (c.in-Ok.tale.paints + c.in-Ok.tale.layers)) c.in-Ok.tale.paints c.in-Ok.tale.layers (question-of c.args.question) low.paints low.layers)

pub print_first-requires-in-Err-clause-within : goal.print_first-requires-in-Err-clause-within
print_first-requires-in-Err-clause-within c = omega (arith, line-few (refused c.number.result))
