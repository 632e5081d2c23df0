use Rattle.std.proofs.Common.{refl, sym, ◌∙◌, arith}
use Rattle.span.specs.Spans.{tiles}
use Rattle.rules_figures.specs.RowFigures.{tiles-painted, tiles-hidden}
use Rattle.tally.proofs.Sums.{none-yet, hidden-on, painted-on, at-end, painted-short, hidden-short}
use Rattle.tally.proofs.fills.add_fill.Goals as goal

pub loop-tile-init : goal.loop-tile-init
loop-tile-init c = none-yet c.args.width c.args.ids.now c.args.id (tiles c.args.span) c.requires.span.0

pub overflow_add-hidden : goal.overflow_add-hidden
overflow_add-hidden c =
    let few = hidden-short c.args.width c.args.ids.now c.args.id (tiles c.args.span) c.loop-tile.invariant in
    let end = c.requires.span.1 in
    omega (arith, c.from-more.ensures, few, end, c.min-next.ensures)

pub overflow_add-painted : goal.overflow_add-painted
overflow_add-painted c =
    let few = painted-short c.args.width c.args.ids.now c.args.id (tiles c.args.span) c.loop-tile.invariant in
    let end = c.requires.span.1 in
    omega (arith, c.from-more.ensures, few, end, c.min-next.ensures)

pub loop-tile-preserved-then-is_newer : goal.loop-tile-preserved-then-is_newer
loop-tile-preserved-then-is_newer c =
    rw c.from-more.ensures
    (hidden-on c.args.width c.args.ids.now c.args.id (tiles c.args.span) _ _ _ _ c.loop-tile.invariant c.loop-tile-test.true
    (rw (← c.below-bucket.ensures, ← c.times.ensures) c.min-next.ensures)
    (rw (← c.below-bucket.ensures) (sym c.is_newer.ensures ∙ c.if-is_newer.true)))

pub loop-tile-preserved : goal.loop-tile-preserved
loop-tile-preserved c =
    rw c.from-more.ensures
    (painted-on c.args.width c.args.ids.now c.args.id (tiles c.args.span) _ _ _ _ c.loop-tile.invariant c.loop-tile-test.true
    (rw (← c.below-bucket.ensures, ← c.times.ensures) c.min-next.ensures)
    (rw (← c.below-bucket.ensures) (sym c.is_newer.ensures ∙ c.if-is_newer.false)))

pub overflow_add-figures-2 : goal.overflow_add-figures-2
overflow_add-figures-2 c =
    let few = painted-short c.args.width c.args.ids.now c.args.id (tiles c.args.span) c.loop-tile.invariant in
    let (n, h, i) = c.requires.small in
    let p = i.painted in
    let end = c.requires.span.1 in
    let to = c.loop-tile.invariant.to in
    omega arith

pub overflow_add-figures-3 : goal.overflow_add-figures-3
overflow_add-figures-3 c =
    let few = hidden-short c.args.width c.args.ids.now c.args.id (tiles c.args.span) c.loop-tile.invariant in
    let (n, h, i) = c.requires.small in
    let p = i.hidden in
    let end = c.requires.span.1 in
    let to = c.loop-tile.invariant.to in
    omega arith

pub returns : goal.returns
unfolding tiles-painted tiles-hidden
returns c =
    let (p, h) = at-end c.args.width c.args.ids.now c.args.id (tiles c.args.span) c.loop-tile.invariant c.loop-tile-test.false in
    rw (c.from.ensures, p, h) refl
