use Rattle.file.proofs.Drawn.{draws-width, draws-there}
use Rattle.file.proofs.recording.Recording.draws.Goals as goal

pub returns-clause-read : goal.returns-clause-read
returns-clause-read c = rw c.draw.ensures.same (draws-there _ _ c.requires)

pub returns-clause-long : goal.returns-clause-long
returns-clause-long c = rw c.draw.ensures.same (draws-width _ _ c.requires)
