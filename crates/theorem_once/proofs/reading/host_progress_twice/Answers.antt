use Rattle.host.specs.Reading.{progress_call}
use Rattle.theorem_once.proofs.Once.{once}
use Rattle.theorem_once.proofs.reading.host_progress_twice.Goals as goal

pub returns : goal.returns
returns c = λ same. once same (λ w. progress_call c.args.row w.1 w.0 w.2) c.coarse_progress.ensures c.coarse_progress-2.ensures
