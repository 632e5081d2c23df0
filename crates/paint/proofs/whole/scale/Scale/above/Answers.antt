use Rattle.std.proofs.Common.{pow_pos}
use Rattle.paint.proofs.Scales.{past_last}
use Rattle.paint.proofs.whole.scale.Scale.above.Goals as goal

pub returns : goal.returns
returns c = past_last _ _ (pow_pos _) c.requires
