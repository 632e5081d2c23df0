use Rattle.fill.proofs.Inputs.{small-both, scene-is}
use Rattle.fill.proofs.job_of.Goals as goal

pub scene_of-requires : goal.scene_of-requires
scene_of-requires c = small-both _ c.requires.viewport c.requires.numbers

pub returns : goal.returns
returns c = rw (scene-is _ _ _ c.scene_of.ensures, c.is_eligible.ensures)
