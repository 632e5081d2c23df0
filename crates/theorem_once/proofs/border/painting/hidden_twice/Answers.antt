use Rattle.rules.specs.Spans.{span}
use Rattle.host.specs.Painting.{hidden_call}
use Rattle.theorem_once.proofs.Once.{once}
use Rattle.theorem_once.proofs.border.painting.hidden_twice.Goals as goal

pub returns : goal.returns
returns c =
    let a = c.args in
    λ same. once same (λ w. hidden_call a.row (span a.buckets.first a.buckets.end) a.id w.0 w.1 w.2) c.coarse_is_hidden.ensures c.coarse_is_hidden-2.ensures
