use Rattle.std.proofs.Common.{sym, ◌∙◌}
use Rattle.span.specs.Spans.{tiles}
use Rattle.fill.proofs.JudgeLaws.{found-unsplit, found-whole, found-pieces}
use Rattle.fill.proofs.judge.added_by.Goals as goal

pub returns-then-is_unsplit : goal.returns-then-is_unsplit
returns-then-is_unsplit c = found-unsplit c.args.width (tiles c.args.stretch.tiles) _ _ (sym c.is_unsplit.ensures ∙ c.if-is_unsplit.true)

pub returns-then-high-low : goal.returns-then-high-low
returns-then-high-low c = found-whole c.args.width (tiles c.args.stretch.tiles) _ _ (sym c.is_unsplit.ensures ∙ c.if-is_unsplit.false) c.above-low.ensures c.below-high.ensures c.if-high-low.true

pub returns : goal.returns
returns c =
    rw (c.edge.ensures, c.edge-2.ensures, c.within.ensures, c.within-2.ensures)
    (found-pieces c.args.width (tiles c.args.stretch.tiles) _ _ (sym c.is_unsplit.ensures ∙ c.if-is_unsplit.false) c.above-low.ensures c.below-high.ensures c.if-high-low.false)
