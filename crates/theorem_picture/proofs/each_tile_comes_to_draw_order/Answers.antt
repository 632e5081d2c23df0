use Rattle.rules_picture.proofs.SamePicture.{same-touched}
use Rattle.rules_picture.proofs.StoredColours.{same-stored, word-newest}
use Rattle.rules_picture.proofs.Inside as rules
use Rattle.theorem_picture.proofs.SamePicture.{same-picture, recording-same}
use Rattle.theorem_picture.proofs.WordAt.{word-at}
use Rattle.theorem_picture.proofs.each_tile_comes_to_draw_order.Goals as goal

pub returns-clause-by_touched : goal.returns-clause-by_touched
returns-clause-by_touched c = λ B. same-touched

pub returns-clause-by_rules : goal.returns-clause-by_rules
returns-clause-by_rules c = λ B. rules.same-picture

pub returns-clause-stored : goal.returns-clause-stored
returns-clause-stored c = λ B. same-stored

pub returns-clause-newest : goal.returns-clause-newest
returns-clause-newest c = λ B. word-newest

pub returns-clause-by_words : goal.returns-clause-by_words
returns-clause-by_words c = λ B. same-picture

pub returns-clause-word : goal.returns-clause-word
returns-clause-word c = λ B. word-at

pub returns-clause-recorded : goal.returns-clause-recorded
returns-clause-recorded c = λ B. recording-same
