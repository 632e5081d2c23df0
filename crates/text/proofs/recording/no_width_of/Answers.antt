-- By the form that is read.
use Rattle.text.proofs.Bytes.{formless, well-formed}
use Rattle.text.proofs.recording.no_width_of.Goals as goal

pub returns-in-Ok : goal.returns-in-Ok
returns-in-Ok c = well-formed _ c.in-Ok.ensures.1

pub returns-in-Err : goal.returns-in-Err
returns-in-Err c = formless _ c.in-Err.ensures
