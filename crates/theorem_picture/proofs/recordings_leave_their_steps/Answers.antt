use Rattle.rules_picture.proofs.Recorded.{accepted, refused-early, refused-late, recorded-picture}
use Rattle.theorem_picture.proofs.Recorded.{recorded-reached, recorded-refused, recorded-early}
use Rattle.theorem_picture.proofs.recordings_leave_their_steps.Goals as goal

pub returns-clause-by_rules : goal.returns-clause-by_rules
returns-clause-by_rules c = λ p old ws. record { accepted = accepted p old ws; early = refused-early p old ws; late = refused-late p old ws }

pub returns-clause-picture : goal.returns-clause-picture
returns-clause-picture c = recorded-picture

pub returns-clause-accepted : goal.returns-clause-accepted
returns-clause-accepted c = recorded-reached

pub returns-clause-refused : goal.returns-clause-refused
returns-clause-refused c = recorded-refused

pub returns-clause-early : goal.returns-clause-early
returns-clause-early c = recorded-early
