-- The text of an answer.
use Rattle.std.specs.Prelude.{ℕ, ◌+◌, List}
use Rattle.rules_reason.specs.Answers.{answer-lines}
use Rattle.text_why.specs.declared.Answer.{Answer}
use Rattle.text_why.specs.Questions.{question-of, read_by}

abbrev pub answer-text : Answer → List ℕ
answer-text a = answer-lines (read_by a.lines.now (a.tale.paints + a.tale.layers)) a.tale.paints a.tale.layers (question-of a.question)
