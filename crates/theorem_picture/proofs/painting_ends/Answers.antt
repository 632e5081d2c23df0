use Rattle.std.proofs.Common.{length}
use Rattle.rules.specs.Calls.{begin-call}
use Rattle.rules_picture.proofs.Finishes as rules
use Rattle.theorem_picture.proofs.Finishes.{finishes}
use Rattle.theorem_picture.proofs.Rows.{row-turns, row_number, calls-turns, row-reached}
use Rattle.theorem_picture.proofs.RowEnds.{row_ends}
use Rattle.theorem_picture.proofs.ManyRows.{rows-calls, many-reached}
use Rattle.theorem_picture.proofs.painting_ends.Goals as goal

pub returns-clause-by_rules : goal.returns-clause-by_rules
returns-clause-by_rules c = λ k e. (rules.in_order (length k.screen.rows) (begin-call k).value, rules.finishes k e)

pub returns-clause-by_steps : goal.returns-clause-by_steps
returns-clause-by_steps c = rules.enough

pub returns-clause-by_words : goal.returns-clause-by_words
returns-clause-by_words c = finishes

pub returns-clause-by_rows : goal.returns-clause-by_rows
returns-clause-by_rows c = λ f xs l h b r there. row_ends h b r there

pub returns-clause-turns : goal.returns-clause-turns
returns-clause-turns c = λ l. record { turns = λ i list. row-turns i l list; number = λ i list. row_number i l list; mixed = λ cs. calls-turns cs l }

pub returns-clause-reached : goal.returns-clause-reached
returns-clause-reached c = λ b f xs l i list h. row-reached i list h

pub returns-clause-many : goal.returns-clause-many
returns-clause-many c = rows-calls

pub returns-clause-many_reached : goal.returns-clause-many_reached
returns-clause-many_reached c = λ b f xs l r list ends h. many-reached r list ends h
