use Rattle.host.specs.Figured.{figures_call}
use Rattle.theorem_once.proofs.Once.{once}
use Rattle.theorem_once.proofs.border.building.figures_twice.Goals as goal

pub returns : goal.returns
returns c =
    let a = c.args in
    λ same. once same (λ w. figures_call w.0 w.1 a.setup w.2 w.3 w.4) c.coarse_figures.ensures.figured c.coarse_figures-2.ensures.figured
