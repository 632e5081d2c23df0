use Rattle.theorem_border.proofs.Edited.{line-words, line-pieces}
use Rattle.theorem_border.proofs.lines_stay_at_border.Goals as goal

pub returns-clause-words : goal.returns-clause-words
returns-clause-words c = line-words

pub returns-clause-pieces : goal.returns-clause-pieces
returns-clause-pieces c = line-pieces
