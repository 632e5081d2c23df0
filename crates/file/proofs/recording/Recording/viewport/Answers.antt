use Rattle.file.specs.Places.{recorded}
use Rattle.file.specs.Judging.{box_from}
use Rattle.file.proofs.recording.Recording.viewport.Goals as goal

pub returns : goal.returns
unfolding recorded box_from
returns c = c.box_at.ensures
