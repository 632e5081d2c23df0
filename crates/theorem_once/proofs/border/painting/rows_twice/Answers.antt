use Rattle.paint.specs.Painting.{words_lent}
use Rattle.paint.specs.Stepping.{attributes}
use Rattle.host.specs.PaintRows.{row_range, paint_rows_call}
use Rattle.theorem_once.proofs.Once.{once}
use Rattle.theorem_once.proofs.border.painting.rows_twice.Goals as goal

pub returns : goal.returns
returns c =
    let a = c.args in
    λ same. once same (λ w. paint_rows_call (row_range a.first a.end) (attributes w.4 w.5) w.0 (words_lent w.1 w.2 w.3 w.6 w.7 w.8) w.9) c.coarse_paint_rows.ensures.rows c.coarse_paint_rows-2.ensures.rows
