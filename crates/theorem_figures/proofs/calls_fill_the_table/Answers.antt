use Rattle.theorem_figures.proofs.Called.{call-told, call-kept}
use Rattle.theorem_figures.proofs.calls_fill_the_table.Goals as goal

pub returns-clause-told : goal.returns-clause-told
returns-clause-told c = call-told

pub returns-clause-kept : goal.returns-clause-kept
returns-clause-kept c = call-kept
