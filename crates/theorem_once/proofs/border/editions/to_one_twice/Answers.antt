use Rattle.host.specs.Editions.{one_call}
use Rattle.theorem_once.proofs.Once.{once}
use Rattle.theorem_once.proofs.border.editions.to_one_twice.Goals as goal

pub returns : goal.returns
returns c =
    let a = c.args in
    λ same. once same (λ w. one_call w.0 a.mode w.1 w.2) c.coarse_to_edition_one.ensures c.coarse_to_edition_one-2.ensures
