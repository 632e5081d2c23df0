-- The laws of a row's room taken back.
use Rattle.rules_picture.proofs.Compacted.{removals, twice-once, compacted-balanced, less-room}
use Rattle.rules_picture.proofs.CompactedPieces.{compacted-same}
use Rattle.rules_picture.proofs.CompactedCall.{twice-called, compacted-gives}
use Rattle.rules_picture.proofs.CompactedFollows.{compacted-picture, compacted-skip}
use Rattle.rules_picture.proofs.Roomier.{room-kept}
use Rattle.rules_picture.proofs.StoredColours.{kept-newest}
use Rattle.rules_picture.proofs.compacting_changes_no_picture.Goals as goal

pub returns-clause-removals : goal.returns-clause-removals
returns-clause-removals c = removals

pub returns-clause-twice : goal.returns-clause-twice
returns-clause-twice c = twice-once

pub returns-clause-again : goal.returns-clause-again
returns-clause-again c = twice-called

pub returns-clause-same : goal.returns-clause-same
returns-clause-same c = compacted-same

pub returns-clause-turns : goal.returns-clause-turns
returns-clause-turns c = compacted-gives

pub returns-clause-balanced : goal.returns-clause-balanced
returns-clause-balanced c = compacted-balanced

pub returns-clause-room : goal.returns-clause-room
returns-clause-room c = less-room

pub returns-clause-picture : goal.returns-clause-picture
returns-clause-picture c = compacted-picture

pub returns-clause-kept : goal.returns-clause-kept
returns-clause-kept c = room-kept

pub returns-clause-skip : goal.returns-clause-skip
returns-clause-skip c = compacted-skip

pub returns-clause-newest : goal.returns-clause-newest
returns-clause-newest c = kept-newest
