-- A buffer's step gives no piece.
use Rattle.std.proofs.Common.{refl, arith}
use Rattle.sizes.specs.Widths.{bucket-tiles}
use Rattle.paint.specs.Kinds.{place}
use Rattle.paint.specs.Reading.{attrs_of}
use Rattle.paint.specs.Rows.{count_of}
use Rattle.paint.specs.Summaries.{summary-at}
use Rattle.paint.proofs.Along.{given-or-not, reach-none, on_bare}
use Rattle.paint.proofs.whole.commands.Seen.settle.Goals as goal

pub returns-then-words-gt4-clause-settled : goal.returns-then-words-gt4-clause-settled
returns-then-words-gt4-clause-settled c =
    let row = c.args.self.row in
    let p = c.args.pieces.now in
    given-or-not c.level_after.result (c.level_after.ensures (bucket-tiles row.width) (attrs_of row.attrs) (summary-at row.state.now) c.args.depth.now) (refl, refl)
    (λ j level ms. on_bare _ _ _ _ _ _ ms c.requires.calm (place c.args.at (count_of p) c.args.nesting p.list.now) _ _ _ _
    (reach-none _ _ _ _ c.requires.at.1 (omega (arith, p.few, p.whole))) c.requires.at.0 _ level.0 (rw c.at-words.ensures at level.1))
