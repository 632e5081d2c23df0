use Rattle.host.specs.Held.{draw_in}
use Rattle.host.specs.Building.{fill_call}
use Rattle.theorem_once.proofs.Once.{once}
use Rattle.theorem_once.proofs.border.building.fill_twice.Goals as goal

pub returns : goal.returns
returns c =
    let a = c.args in
    λ same. once same (λ w. fill_call w.3 w.4 (draw_in a.draw) w.0 w.1 w.2) c.coarse_fill.ensures.filled c.coarse_fill-2.ensures.filled
