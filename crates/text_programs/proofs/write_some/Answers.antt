use Rattle.text_programs.proofs.Outputs.{kept_appends}
use Rattle.text_programs.proofs.write_some.Goals as goal

pub returns-in-Ok-clause-bytes : goal.returns-in-Ok-clause-bytes
returns-in-Ok-clause-bytes g c = kept_appends _ _ _ _ c.loop.invariant c.in-Ok.ensures.bytes
