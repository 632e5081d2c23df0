-- What is told of rows has one result.
use Rattle.std.proofs.Common.{rules, ap, sym, ◌∙◌, ℕ, List, [], get_or}
use Rattle.screen.specs.Depths.{Depths}
use Rattle.paint.specs.Painting.{words_lent}
use Rattle.paint.specs.Stepping.{attributes}
use Rattle.paint.specs.InOrder.{RowsOut, asked, rows-painted}
use Rattle.theorem_once.specs.Painting.{paint-words}
use Rattle.theorem_once.proofs.Once.{rows-once}
use Rattle.theorem_once.proofs.painting.rows_twice.Goals as goal

pub returns : goal.returns
returns c =
    let a = c.args in
    let call : List (List ℕ) × (Depths × List ℕ) × List ℕ → List ℕ → RowsOut =
    λ w e. rows-painted a.screen a.rows (attributes (get_or w.0 3 []) (get_or w.0 4 []))
    (words_lent (get_or w.0 0 []) (get_or w.0 1 []) (get_or w.0 2 []) w.1.0 w.1.1 w.2) e
    in
    λ same.
    let k = rows-once (asked a.rows) _ _ _ _ _ _ _ _
    (c.paint_rows.ensures.painted ∙ ap (λ w. call w a.a_ends.now) same.0 ∙ ap (call (paint-words a.b.now)) same.1 ∙ sym c.paint_rows-2.ensures.painted)
    in
    let s = ap (λ w. w.0) same.0 in
    let e = ap {B = Depths × List ℕ} (λ x. (x.0, x.1)) k.1 in
    let t = ap (λ x. x.2) k.1 in
    (k.0, search (rules, s, e, t), ap (λ x. x.3) k.1)
