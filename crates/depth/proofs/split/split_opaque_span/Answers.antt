use Rattle.rules.proofs.laws.Widths.{bucket-some}
use Rattle.depth.proofs.Splitting.{in_one, in_three}
use Rattle.depth.proofs.split.split_opaque_span.Goals as goal

pub returns-then-high-low : goal.returns-then-high-low
returns-then-high-low c = in_one _ (bucket-some c.args.width) _ c.if-span.false c.if-span-gt-TILE_END.false _ _ c.above-low.ensures
    c.below-high.ensures c.if-high-low.true

pub returns : goal.returns
returns c = in_three _ (bucket-some c.args.width) _ c.if-span.false c.if-span-gt-TILE_END.false _ _ c.above-low.ensures
    c.below-high.ensures _ _ c.if-high-low.false (rw c.times.ensures at c.piece.ensures)
    (rw c.times-2.ensures at c.piece-2.ensures)
