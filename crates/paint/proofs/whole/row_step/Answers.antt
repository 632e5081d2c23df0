-- One look settles the row's next step, or nothing changes.
use Rattle.std.proofs.Common.{arith}
use Rattle.std.proofs.lemmas.Bool.{not-false, not-true}
use Rattle.paint.proofs.WholeSure.{ended-there, full-there, none-there}
use Rattle.paint.proofs.whole.row_step.Goals.{else-not-went-via-then-not-went+else-went-eq0, else-not-went-via-else-not-went}
use Rattle.paint.proofs.whole.row_step.Goals as goal

pub returns-then-went-eq0-clause-painted : goal.returns-then-went-eq0-clause-painted
returns-then-went-eq0-clause-painted c =
    let sure = c.step_part-went.ensures in
    none-there c.row_of-read.ensures _ _ c.requires.wide _ _ _ _ sure.others sure.sure c.if-went-eq0.true

pub returns-clause-painted : goal.returns-clause-painted
returns-clause-painted c =
    let sure = c.step_part-went.ensures in
    elim c.else-not-went.branch [
      | else-not-went-via-then-not-went+else-went-eq0 w ↦
          full-there c.row_of-read.ensures _ _ c.requires.wide _ _ _ _ sure.others sure.sure (not-true _ w.if-not-went.true) (omega (arith, w.if-went-eq0.false))
      | else-not-went-via-else-not-went w ↦ ended-there c.row_of-read.ensures _ _ c.requires.wide _ _ _ _ sure.others sure.sure (not-false _ w.if-not-went.false)
    ]
