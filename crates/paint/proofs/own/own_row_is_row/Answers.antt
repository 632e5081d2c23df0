use Rattle.paint.proofs.OwnRow.{own-is-row, own-beside}
use Rattle.paint.proofs.own.own_row_is_row.Goals as goal

pub returns-clause-row : goal.returns-clause-row
returns-clause-row c = own-is-row

pub returns-clause-beside : goal.returns-clause-beside
returns-clause-beside c = own-beside
