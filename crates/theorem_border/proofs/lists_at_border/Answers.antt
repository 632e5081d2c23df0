use Rattle.theorem_border.proofs.Listed.{list-received, list-room}
use Rattle.theorem_border.proofs.ListNumbers.{list-numbered}
use Rattle.theorem_border.proofs.lists_at_border.Goals as goal

pub returns-clause-received : goal.returns-clause-received
returns-clause-received c = list-received

pub returns-clause-room : goal.returns-clause-room
returns-clause-room c = list-room

pub returns-clause-numbers : goal.returns-clause-numbers
returns-clause-numbers c = list-numbered
