use Rattle.theorem_picture.proofs.Edited.{line-words, line-pieces, lines-listed}
use Rattle.theorem_picture.proofs.lines_stay.Goals as goal

pub returns-clause-words : goal.returns-clause-words
returns-clause-words c = line-words

pub returns-clause-pieces : goal.returns-clause-pieces
returns-clause-pieces c = line-pieces

pub returns-clause-listed : goal.returns-clause-listed
returns-clause-listed c = lines-listed
