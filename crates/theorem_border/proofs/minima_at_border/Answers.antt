use Rattle.theorem_border.proofs.Summed.{hosted-summed, hosted-hidden}
use Rattle.theorem_border.proofs.minima_at_border.Goals as goal

pub returns-clause-summed : goal.returns-clause-summed
returns-clause-summed c = hosted-summed

pub returns-clause-hidden : goal.returns-clause-hidden
returns-clause-hidden c = hosted-hidden
