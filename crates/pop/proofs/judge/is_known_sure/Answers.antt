-- No row has more of a range's segments than all of them.
use Rattle.pop.proofs.Few.{all-most}
use Rattle.pop.proofs.judge.is_known_sure.Goals as goal

pub is_roomy-requires : goal.is_roomy-requires
is_roomy-requires c =
    record {
      whole = c.requires.whole;
      band = c.requires.band;
      some = c.requires.some;
      deep = c.requires.deep;
      starts = c.requires.starts;
      few = all-most _ _ _ _ _ (rw c.in-Some.is at c.requires.known) c.if-known-clip.false c.if-known-clip-2.false;
    }
