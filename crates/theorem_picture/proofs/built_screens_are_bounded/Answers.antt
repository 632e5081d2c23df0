use Rattle.theorem_picture.proofs.Bounded.{frame_kept, rows-few}
use Rattle.theorem_picture.proofs.built_screens_are_bounded.Goals as goal

pub returns-clause-frame : goal.returns-clause-frame
returns-clause-frame c = frame_kept

pub returns-clause-pieces : goal.returns-clause-pieces
returns-clause-pieces c = rows-few
