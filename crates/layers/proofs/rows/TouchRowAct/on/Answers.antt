use Rattle.row.specs.Row.{held}
use Rattle.layers.proofs.RowsLaws.{touch-grows}
use Rattle.layers.proofs.rows.TouchRowAct.on.Goals as goal

pub returns-clause-grown : goal.returns-clause-grown
returns-clause-grown c = rw c.ensure_row_layers.ensures.row (touch-grows c.args.self.layers (held c.args.row.now) c.requires.0 c.requires.1)
