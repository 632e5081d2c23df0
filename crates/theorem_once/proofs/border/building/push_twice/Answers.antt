use Rattle.host.specs.Held.{props_of}
use Rattle.host.specs.Building.{push_call}
use Rattle.theorem_once.proofs.Once.{once}
use Rattle.theorem_once.proofs.border.building.push_twice.Goals as goal

pub returns : goal.returns
returns c =
    let a = c.args in
    λ same. once same (λ w. push_call a.props.flag (props_of a.props) w.0 w.1 w.2 w.3) c.coarse_push_layer.ensures.pushed c.coarse_push_layer-2.ensures.pushed
