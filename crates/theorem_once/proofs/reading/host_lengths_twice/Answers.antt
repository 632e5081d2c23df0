use Rattle.host.specs.Reading.{lengths_call}
use Rattle.theorem_once.proofs.Once.{once}
use Rattle.theorem_once.proofs.reading.host_lengths_twice.Goals as goal

pub returns : goal.returns
returns c = λ same. once same (λ w. lengths_call c.args.row w.1 w.0 w.2) c.coarse_row_lengths.ensures c.coarse_row_lengths-2.ensures
