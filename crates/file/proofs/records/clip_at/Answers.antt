use mathlib.Core.Path.{◌∙◌}
use Rattle.file.specs.Places.{clip_from}
use Rattle.file.proofs.Fields.{clip-box}
use Rattle.file.proofs.records.clip_at.Goals as goal

pub returns : goal.returns
unfolding clip_from
returns c = rw (c.box_at.ensures ∙ clip-box _ _)
