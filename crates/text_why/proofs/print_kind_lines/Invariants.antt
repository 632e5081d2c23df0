-- So far the lines of the first attributes are written.
use Rattle.rules_reason.specs.Answers.{kind-lines}
use Rattle.text.specs.Texts.{Writes}
use Rattle.text_why.specs.Questions.{read_by}
use Rattle.text_why.proofs.print_kind_lines.Given as goal

abbrev pub invariant-loop-attribute : goal.invariant-loop-attribute
invariant-loop-attribute l = Writes (kind-lines (read_by l.lines l.n) l.layer l.attribute) l.initial.out l.out
