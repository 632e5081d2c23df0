use Rattle.host.specs.Held.{rect_of}
use Rattle.host.specs.Sizes.{size_call}
use Rattle.theorem_once.proofs.Once.{once}
use Rattle.theorem_once.proofs.border.building.sizes_twice.Goals as goal

pub returns : goal.returns
returns c =
    let a = c.args in
    λ same. once same (λ w. size_call (rect_of a.viewport) a.setup w) c.coarse_sizes.ensures c.coarse_sizes-2.ensures
