use Rattle.host.specs.Painting.{begin_call}
use Rattle.theorem_once.proofs.Once.{once}
use Rattle.theorem_once.proofs.border.painting.begin_twice.Goals as goal

pub returns : goal.returns
returns c = λ same. once same (λ w. begin_call w.0 w.1 w.2) c.coarse_begin_painting.ensures.begun c.coarse_begin_painting-2.ensures.begun
