use Rattle.rules.specs.Spans.{span}
use Rattle.host.specs.Painting.{write_call}
use Rattle.theorem_once.proofs.Once.{once}
use Rattle.theorem_once.proofs.border.painting.write_twice.Goals as goal

pub returns : goal.returns
returns c =
    let a = c.args in
    λ same. once same (λ w. write_call a.row (span a.buckets.first a.buckets.end) a.id w.0 w.1 w.2 w.3) c.coarse_unset_runs_and_write.ensures.written c.coarse_unset_runs_and_write-2.ensures.written
