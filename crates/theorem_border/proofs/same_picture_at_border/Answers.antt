use Rattle.theorem_border.proofs.Colours.{same-picture, same-stored-read, word-read}
use Rattle.theorem_border.proofs.same_picture_at_border.Goals as goal

pub returns-clause-by_steps : goal.returns-clause-by_steps
returns-clause-by_steps c = λ B. same-picture

pub returns-clause-by_commands : goal.returns-clause-by_commands
returns-clause-by_commands c = λ B. same-stored-read

pub returns-clause-word : goal.returns-clause-word
returns-clause-word c = λ B. word-read
