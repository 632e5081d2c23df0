use mathlib.Core.Path.{◌∙◌}
use Rattle.file.specs.Places.{filter_from}
use Rattle.file.proofs.Fields.{filter-box}
use Rattle.file.proofs.records.filter_at.Goals as goal

pub returns : goal.returns
unfolding filter_from
returns c = rw (c.box_at.ensures ∙ filter-box _ _, c.pixmap_of.ensures)
