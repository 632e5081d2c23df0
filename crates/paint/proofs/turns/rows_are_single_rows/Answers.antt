use Rattle.paint.proofs.RowTurns.{in-parts, one-row}
use Rattle.paint.proofs.turns.rows_are_single_rows.Goals as goal

pub returns-clause-parts : goal.returns-clause-parts
returns-clause-parts c row f m r k e g h = in-parts row m f r k e g h

pub returns-clause-one : goal.returns-clause-one
returns-clause-one c = one-row
