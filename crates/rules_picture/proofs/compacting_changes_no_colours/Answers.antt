use Rattle.rules_picture.proofs.SamePicture.{kept-touched}
use Rattle.rules_picture.proofs.Inside.{kept-colours}
use Rattle.rules_picture.proofs.StoredColours.{kept-stored}
use Rattle.rules_picture.proofs.compacting_changes_no_colours.Goals as goal

pub returns-clause-touched : goal.returns-clause-touched
returns-clause-touched c = λ B. kept-touched

pub returns-clause-colours : goal.returns-clause-colours
returns-clause-colours c = λ B. kept-colours

pub returns-clause-stored : goal.returns-clause-stored
returns-clause-stored c = λ B. kept-stored
