-- Invariant: the ends from place k on decide.
use Rattle.std.proofs.Common.{◌≡◌, drop}
use Rattle.tally.specs.Listed.{good-ends}
use Rattle.tally.proofs.list.is_good_ends.Given as goal

abbrev pub invariant-loop-k : goal.invariant-loop-k
invariant-loop-k l = good-ends l.at l.words (drop l.k l.ends) ≡ good-ends 0 l.words l.ends
