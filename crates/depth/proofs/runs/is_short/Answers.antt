use Rattle.std.proofs.Common.{sym, ◌∙◌, ltb-false}
use Rattle.rules.specs.Depth.{is-visible}
use Rattle.depth.proofs.Answering.{roomy, empty}
use Rattle.depth.proofs.runs.is_short.Goals as goal
use Rattle.depth.proofs.runs.is_short.Goals.{then-lo-hi, else-lo-hi}

pub returns-else-room-hi : goal.returns-else-room-hi
returns-else-room-hi c = rw c.if-room-hi.false (elim c.if-lo-hi.branch [
  | then-lo-hi w ↦ roomy (is-visible c.args.ceiling) c.args.depth.now c.args.lo c.args.hi _ (ltb-false _ _ (sym w.value-is ∙ c.if-room-hi.false))
  | else-lo-hi w ↦ empty (is-visible c.args.ceiling) c.args.depth.now c.args.lo c.args.hi _ w.if-lo-hi.false
])
