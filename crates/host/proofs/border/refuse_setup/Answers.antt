-- The form, then the number.
use Rattle.std.proofs.Common.{◌∙◌}
use Rattle.host.proofs.Ways.{unasked-form, unasked-file}
use Rattle.host.proofs.border.refuse_setup.Goals as goal

pub returns-in-Ok : goal.returns-in-Ok
returns-in-Ok c = c.number.ensures ∙ unasked-file _ _ _ c.in-Ok.ensures.1

pub returns-in-Err : goal.returns-in-Err
returns-in-Err c = c.number-in-Err.ensures ∙ rw c.in-Err.ensures.0 (unasked-form _ _ c.in-Err.ensures.1)
