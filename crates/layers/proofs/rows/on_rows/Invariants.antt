-- At row r the rows from r to b still have room, and acting on them from here gives what acting on all from a would (`Banding`).
use Rattle.row.specs.Rows.{all-held, SameRows}
use Rattle.layers.proofs.RowsLaws.{Banding}
use Rattle.layers.proofs.rows.on_rows.Given as goal

abbrev pub invariant-loop-r : goal.invariant-loop-r
invariant-loop-r g l =
    SameRows l.initial.rows l.rows
    × Banding l.screen (g.A.RowAct.made l.act) l.band.start l.band.end (all-held l.initial.rows) l.r (all-held l.rows)
