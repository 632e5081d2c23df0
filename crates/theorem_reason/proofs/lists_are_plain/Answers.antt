use Rattle.theorem_reason.proofs.Lists.{list-is-plain, recorded-roomless, list-received, list-without-room}
use Rattle.theorem_reason.proofs.lists_are_plain.Goals as goal

pub returns-clause-plain : goal.returns-clause-plain
returns-clause-plain c = list-is-plain

pub returns-clause-roomless : goal.returns-clause-roomless
returns-clause-roomless c = recorded-roomless

pub returns-clause-received : goal.returns-clause-received
returns-clause-received c = list-received

pub returns-clause-without_room : goal.returns-clause-without_room
returns-clause-without_room c = list-without-room
