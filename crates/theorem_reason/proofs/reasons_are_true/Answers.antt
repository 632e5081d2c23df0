use Rattle.theorem_reason.proofs.Reasons.{told-exact, reason-true, unknown-exact, shown-exact, hidden-exact}
use Rattle.theorem_reason.proofs.Panels.{panel-true}
use Rattle.theorem_reason.proofs.Painted.{reason-painted}
use Rattle.theorem_reason.proofs.reasons_are_true.Goals as goal

pub returns-clause-told : goal.returns-clause-told
returns-clause-told c = told-exact

pub returns-clause-first : goal.returns-clause-first
returns-clause-first c = reason-true

pub returns-clause-unknown : goal.returns-clause-unknown
returns-clause-unknown c = unknown-exact

pub returns-clause-shown : goal.returns-clause-shown
returns-clause-shown c = shown-exact

pub returns-clause-hidden : goal.returns-clause-hidden
returns-clause-hidden c = hidden-exact

pub returns-clause-panel : goal.returns-clause-panel
returns-clause-panel c = panel-true

pub returns-clause-painted : goal.returns-clause-painted
returns-clause-painted c = reason-painted
