use Rattle.walk.proofs.Given.{good-props-said, props-good}
use Rattle.theorem_picture.proofs.Calls.{shifts-free}
use Rattle.theorem_picture.proofs.Props.{push-reached}
use Rattle.theorem_picture.proofs.Reached.{reached, step-reached, alone-reached, alone-stands}
use Rattle.theorem_picture.proofs.FillLists.{fills-reached}
use Rattle.theorem_picture.proofs.Answered.{stands-answered, calls-said, refused-kept}
use Rattle.theorem_picture.proofs.Stored.{stands-stored}
use Rattle.theorem_picture.proofs.Summed.{reached-summed, reached-hidden}
use Rattle.theorem_picture.proofs.reached_words_are_the_rules_screen.Goals as goal

pub returns-clause-stands : goal.returns-clause-stands
returns-clause-stands c = λ b f xs l h. reached h

pub returns-clause-alone : goal.returns-clause-alone
returns-clause-alone c = alone-reached

pub returns-clause-alone_stands : goal.returns-clause-alone_stands
returns-clause-alone_stands c = alone-stands

pub returns-clause-answered : goal.returns-clause-answered
returns-clause-answered c = stands-answered

pub returns-clause-stored : goal.returns-clause-stored
returns-clause-stored c = stands-stored

pub returns-clause-said : goal.returns-clause-said
returns-clause-said c = calls-said

pub returns-clause-refused : goal.returns-clause-refused
returns-clause-refused c = refused-kept

pub returns-clause-steps : goal.returns-clause-steps
returns-clause-steps c = λ b f xs l x h e. step-reached x h e

pub returns-clause-pushes : goal.returns-clause-pushes
returns-clause-pushes c = λ b f xs l p z r e. push-reached p z r e

pub returns-clause-fills : goal.returns-clause-fills
returns-clause-fills c = λ t f xs l ps ss ws a b r. fills-reached ps ss ws a b r

pub returns-clause-properties : goal.returns-clause-properties
returns-clause-properties c = record { said = good-props-said; given = props-good }

pub returns-clause-shifts : goal.returns-clause-shifts
returns-clause-shifts c = λ ps qs e f h ss d. shifts-free ps qs f h e ss d

pub returns-clause-summed : goal.returns-clause-summed
returns-clause-summed c = reached-summed

pub returns-clause-hidden : goal.returns-clause-hidden
returns-clause-hidden c = reached-hidden
