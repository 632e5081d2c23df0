use Rattle.theorem_text.proofs.Rows.{stands-wait, row-waits, waiting-printed}
use Rattle.theorem_text.proofs.Printed.{held-begun, rows-whole}
use Rattle.theorem_text.proofs.painted_rows_print_as_the_rules_say.Goals as goal

pub returns-clause-begun : goal.returns-clause-begun
returns-clause-begun c = held-begun

pub returns-clause-waits : goal.returns-clause-waits
returns-clause-waits c = λ f xs l s e r there. stands-wait s e r there

pub returns-clause-others : goal.returns-clause-others
returns-clause-others c = λ s r m h i list d. row-waits h i list d

pub returns-clause-printed : goal.returns-clause-printed
returns-clause-printed c = λ v s r m h list bs z f g. waiting-printed v h list bs z f g

pub returns-clause-whole : goal.returns-clause-whole
returns-clause-whole c = rows-whole
