use Rattle.host.specs.Building.{used_call}
use Rattle.theorem_once.proofs.Once.{once}
use Rattle.theorem_once.proofs.border.building.reset_used_twice.Goals as goal

pub returns : goal.returns
returns c = λ same. once same (λ w. used_call w.0 w.1) c.coarse_reset_used.ensures.reset c.coarse_reset_used-2.ensures.reset
