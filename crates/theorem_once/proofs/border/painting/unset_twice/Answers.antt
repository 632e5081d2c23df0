use Rattle.rules.specs.Spans.{span}
use Rattle.host.specs.Painting.{unset_call}
use Rattle.theorem_once.proofs.Once.{once}
use Rattle.theorem_once.proofs.border.painting.unset_twice.Goals as goal

pub returns : goal.returns
returns c =
    let a = c.args in
    λ same. once same (λ w. unset_call a.row (span a.tiles.first a.tiles.end) w.0 w.1 w.2 w.3) c.coarse_unset_runs.ensures c.coarse_unset_runs-2.ensures
