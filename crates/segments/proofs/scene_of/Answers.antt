use Rattle.std.proofs.Common.{refl}
use Rattle.rules.specs.Boxes.{scene-tiles}
use Rattle.segments.proofs.scene_of.Goals as goal

pub returns : goal.returns
unfolding scene-tiles
returns c = record { corner = refl; area = refl }
