use Rattle.paint.proofs.ScreenLaws.{step-alone}
use Rattle.paint.proofs.WholeLaws.{row-alone}
use Rattle.paint.proofs.OwnRow.{own-is-row, own-beside}
use Rattle.theorem_picture.proofs.rows_are_apart.Goals as goal

pub returns-clause-steps : goal.returns-clause-steps
returns-clause-steps c = step-alone

pub returns-clause-rows : goal.returns-clause-rows
returns-clause-rows c = row-alone

pub returns-clause-own : goal.returns-clause-own
returns-clause-own c = own-is-row

pub returns-clause-beside : goal.returns-clause-beside
returns-clause-beside c = own-beside
