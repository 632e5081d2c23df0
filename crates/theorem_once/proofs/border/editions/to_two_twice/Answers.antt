use Rattle.host.specs.Editions.{two_call}
use Rattle.theorem_once.proofs.Once.{once}
use Rattle.theorem_once.proofs.border.editions.to_two_twice.Goals as goal

pub returns : goal.returns
returns c =
    let a = c.args in
    λ same. once same (λ w. two_call w.0 a.mode w.1 w.2) c.coarse_to_edition_two.ensures c.coarse_to_edition_two-2.ensures
