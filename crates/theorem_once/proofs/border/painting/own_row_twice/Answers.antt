use Rattle.paint.specs.Painting.{words_lent}
use Rattle.paint.specs.Stepping.{attributes}
use Rattle.host.specs.Painting.{own_row_call}
use Rattle.theorem_once.proofs.Once.{once}
use Rattle.theorem_once.proofs.border.painting.own_row_twice.Goals as goal

pub returns : goal.returns
returns c =
    λ same. once same (λ w. own_row_call (attributes w.4 w.5) w.0 (words_lent w.1 w.2 w.3 w.6 w.7 w.8) w.9) c.coarse_paint_own_row.ensures.row c.coarse_paint_own_row-2.ensures.row
