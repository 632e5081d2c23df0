-- So far the row has k levels; putting the rest gives the same row as from the start.
use Rattle.std.proofs.Common.{◌-◌}
use Rattle.row.specs.Row.{held, Same}
use Rattle.row.specs.Acts.{ensured}
use Rattle.row.proofs.ActsLaws.{Layering}
use Rattle.row.proofs.acts.ensure_row_layers.Given as goal

abbrev pub invariant-loop-k : goal.invariant-loop-k
invariant-loop-k l = Same l.initial.row l.row × Layering l.n (ensured l.n (held l.initial.row)) (held l.initial.row) l.k (held l.row)

abbrev pub decreases-loop-k : goal.decreases-loop-k
decreases-loop-k l = l.n - l.k
