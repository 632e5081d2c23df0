use Rattle.theorem_editions.proofs.Calls.{two-and-back, one-and-back}
use Rattle.theorem_editions.proofs.calls_go_back.Goals as goal

pub returns-clause-two : goal.returns-clause-two
returns-clause-two c = two-and-back

pub returns-clause-one : goal.returns-clause-one
returns-clause-one c = one-and-back
