use Rattle.theorem_reason.proofs.Explained.{explained-true, explained-painted}
use Rattle.theorem_reason.proofs.answers_are_true.Goals as goal

pub returns-clause-history : goal.returns-clause-history
returns-clause-history c = explained-true

pub returns-clause-painted : goal.returns-clause-painted
returns-clause-painted c = explained-painted
