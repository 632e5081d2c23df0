use Rattle.host.specs.FillLists.{list_call}
use Rattle.theorem_once.proofs.Once.{once}
use Rattle.theorem_once.proofs.border.building.fill_list_twice.Goals as goal

pub returns : goal.returns
returns c =
    λ same. once same (λ w. list_call w.0.3 w.0.4 w.1 w.2 w.3 w.0.0 w.0.1 w.0.2) c.coarse_fill_list.ensures.filled c.coarse_fill_list-2.ensures.filled
