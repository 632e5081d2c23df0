use Rattle.paint.specs.Stepping.{attributes}
use Rattle.host.specs.Compacted.{compact_call}
use Rattle.theorem_once.proofs.Once.{once}
use Rattle.theorem_once.proofs.border.building.compact_twice.Goals as goal

pub returns : goal.returns
returns c =
    let a = c.args in
    λ same. once same (λ w. compact_call a.row (attributes w.2 w.3) w.0 w.1) c.coarse_compact_row.ensures.compacted c.coarse_compact_row-2.ensures.compacted
