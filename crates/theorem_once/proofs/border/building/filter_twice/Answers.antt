use Rattle.host.specs.Held.{filter_of}
use Rattle.host.specs.Building.{filter_call}
use Rattle.theorem_once.proofs.Once.{once}
use Rattle.theorem_once.proofs.border.building.filter_twice.Goals as goal

pub returns : goal.returns
returns c =
    let a = c.args in
    λ same. once same (λ w. filter_call a.filter.has_pixmap (filter_of a.filter) w.0 w.1 w.2 w.3) c.coarse_filter_fill.ensures.filtered c.coarse_filter_fill-2.ensures.filtered
