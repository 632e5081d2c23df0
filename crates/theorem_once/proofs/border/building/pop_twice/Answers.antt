use Rattle.host.specs.Building.{pop_call}
use Rattle.theorem_once.proofs.Once.{once}
use Rattle.theorem_once.proofs.border.building.pop_twice.Goals as goal

pub returns : goal.returns
returns c = λ same. once same (λ w. pop_call w.0 w.1 w.2) c.coarse_pop_layer.ensures.popped c.coarse_pop_layer-2.ensures.popped
