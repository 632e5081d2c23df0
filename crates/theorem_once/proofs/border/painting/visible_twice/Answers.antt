use Rattle.rules.specs.Spans.{span}
use Rattle.host.specs.Painting.{visible_call}
use Rattle.theorem_once.proofs.Once.{once}
use Rattle.theorem_once.proofs.border.painting.visible_twice.Goals as goal

pub returns : goal.returns
returns c =
    let a = c.args in
    λ same. once same (λ w. visible_call a.row (span a.tiles.first a.tiles.end) a.id w.0 w.1 w.2 w.3) c.coarse_visible_runs.ensures c.coarse_visible_runs-2.ensures
