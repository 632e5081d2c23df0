use Rattle.std.proofs.Common.{refl}
use Rattle.segments.specs.Segs.{seg-at}
use Rattle.segments.proofs.segment_at.Goals as goal

pub returns : goal.returns
unfolding seg-at
returns c = refl
