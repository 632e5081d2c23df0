use Rattle.rules.specs.Spans.{span}
use Rattle.host.specs.Painting.{skip_call}
use Rattle.theorem_once.proofs.Once.{once}
use Rattle.theorem_once.proofs.border.painting.skip_twice.Goals as goal

pub returns : goal.returns
returns c =
    let a = c.args in
    λ same. once same (λ w. skip_call a.row (span a.tiles.first a.tiles.end) a.id w.0 w.1 w.2) c.coarse_can_skip.ensures c.coarse_can_skip-2.ensures
