-- The walk goes by runs of segments on one row (`Walking`); each that ends is looked at for room.
use Rattle.std.proofs.Common.{◌≡◌, ◌-◌}
use Rattle.row.specs.Arena.{count-rows}
use Rattle.fill.proofs.Sure.{split_off, Walking}
use Rattle.fill.proofs.judge.is_sure.Given as goal

abbrev pub invariant-loop-i : goal.invariant-loop-i
invariant-loop-i g l = (l.weight ≡ split_off l.job.eligible 1) × Walking l.job (count-rows l.rows) l.rows l.list l.start l.end l.row l.from l.edge l.split l.i

abbrev pub decreases-loop-i : goal.decreases-loop-i
decreases-loop-i g l = l.end - l.i
