use Rattle.std.proofs.Common.{refl}
use Rattle.sizes.proofs.Refusals.{not_done}
use Rattle.row.specs.Rows.{all-held}
use Rattle.text.proofs.FileTexts.{show-refused, show-done}
use Rattle.text.proofs.recording.show.Goals as goal

pub returns-in-Ok : goal.returns-in-Ok
returns-in-Ok c = show-done _ (all-held c.args.rows.now) _ c.in-Ok.ensures refl

pub returns-in-Err : goal.returns-in-Err
returns-in-Err c = show-refused _ (all-held c.args.rows.now) _ c.in-Err.ensures (not_done _) c.refuse.ensures
