-- The segments are known to be good, or one look at each has counted the most of a row.
use Rattle.pop.proofs.judge.is_sure.Goals as goal

pub returns-then-is_known_sure : goal.returns-then-is_known_sure
returns-then-is_known_sure c = λ e. c.is_known_sure.ensures c.if-is_known_sure.true

pub is_roomy-requires : goal.is_roomy-requires
is_roomy-requires c =
    record {
      whole = c.requires.whole;
      band = c.requires.band;
      some = c.requires.some;
      deep = c.requires.deep;
      starts = c.requires.starts;
      few = rw c.in-Some.is at c.most_on_a_row.ensures;
    }
