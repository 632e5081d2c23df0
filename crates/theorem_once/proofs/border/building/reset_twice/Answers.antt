use Rattle.host.specs.Held.{rect_of}
use Rattle.host.specs.Building.{reset_call}
use Rattle.theorem_once.proofs.Once.{once}
use Rattle.theorem_once.proofs.border.building.reset_twice.Goals as goal

pub returns : goal.returns
returns c =
    let a = c.args in
    λ same. once same (λ w. reset_call (rect_of a.viewport) a.setup w.0 w.1) c.coarse_reset.ensures.reset c.coarse_reset-2.ensures.reset
