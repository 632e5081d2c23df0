use Rattle.file.specs.Places.{recorded}
use Rattle.file.proofs.recording.Recording.root.Goals as goal

pub returns : goal.returns
unfolding recorded
returns c = c.root_at.ensures
