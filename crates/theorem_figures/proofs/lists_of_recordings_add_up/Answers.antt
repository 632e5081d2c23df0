use Rattle.theorem_figures.proofs.Listed.{one-each, all-accounted, lines-small, sums-small, none-left, last-left}
use Rattle.theorem_figures.proofs.lists_of_recordings_add_up.Goals as goal

pub returns-clause-lines : goal.returns-clause-lines
returns-clause-lines c = one-each

pub returns-clause-accounted : goal.returns-clause-accounted
returns-clause-accounted c = all-accounted

pub returns-clause-small : goal.returns-clause-small
returns-clause-small c = lines-small

pub returns-clause-small_totals : goal.returns-clause-small_totals
returns-clause-small_totals c = sums-small

pub returns-clause-none : goal.returns-clause-none
returns-clause-none c = none-left

pub returns-clause-last : goal.returns-clause-last
returns-clause-last c = last-left
