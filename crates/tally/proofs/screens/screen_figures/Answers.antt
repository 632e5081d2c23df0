use Rattle.std.proofs.Common.{sym, ◌∙◌, ◌*◌, arith}
use Rattle.paint.specs.Judging.{count}
use Rattle.paint.specs.StoredCmds.{stored_words}
use Rattle.tally.specs.Counts.{row-most}
use Rattle.tally.specs.Rows.{stored-attrs}
use Rattle.tally.proofs.Adding.{none-within, within-more}
use Rattle.tally.proofs.OneScreen.{is-whole, no-row, one-row, all-rows, not-countable, counted, within-plus, part-short, part-long}
use Rattle.tally.proofs.screens.screen_figures.Goals as goal

pub returns-then-not-is_countable-clause-figures : goal.returns-then-not-is_countable-clause-figures
returns-then-not-is_countable-clause-figures c =
    c.nothing-figures.ensures
    ∙ not-countable c.args.screen (stored_words c.args.stored.now) (stored-attrs c.args.stored.now) (sym c.is_countable.ensures ∙ c.if-not-is_countable.true)

pub loop-row-init : goal.loop-row-init
loop-row-init c = (
  omega arith,
  rw c.nothing-figures.ensures none-within,
  no-row c.args.screen _ (stored_words c.args.stored.now) (count c.args.screen) _ c.nothing-figures.ensures,
)

pub part-requires : goal.part-requires
part-requires c =
    let p = is-whole c.args.screen (stored_words c.args.stored.now) (stored-attrs c.args.stored.now) (sym c.is_countable.ensures ∙ c.if-not-is_countable.false) in
    (p.rows c.loop-row.row (rw c.rows.ensures at c.loop-row-test.true)).state.ends

pub part-requires-in-loop-row : goal.part-requires-in-loop-row
part-requires-in-loop-row c =
    let p = is-whole c.args.screen (stored_words c.args.stored.now) (stored-attrs c.args.stored.now) (sym c.is_countable.ensures ∙ c.if-not-is_countable.false) in
    (p.rows c.loop-row.row (rw c.rows.ensures at c.loop-row-test.true)).render.ends

pub part-requires-in-loop-row-2 : goal.part-requires-in-loop-row-2
part-requires-in-loop-row-2 c =
    let p = is-whole c.args.screen (stored_words c.args.stored.now) (stored-attrs c.args.stored.now) (sym c.is_countable.ensures ∙ c.if-not-is_countable.false) in
    (p.rows c.loop-row.row (rw c.rows.ensures at c.loop-row-test.true)).fills.ends

pub invariant_of-attrs : goal.invariant_of-attrs
invariant_of-attrs c =
    let p = is-whole c.args.screen (stored_words c.args.stored.now) (stored-attrs c.args.stored.now) (sym c.is_countable.ensures ∙ c.if-not-is_countable.false) in
    record { paint_len = p.paint_len; paints_few = p.paints_few; layer_len = p.layer_len; layers_few = p.layers_few }

pub row_figures-requires-clause-long : goal.row_figures-requires-clause-long
row_figures-requires-clause-long c =
    let p = is-whole c.args.screen (stored_words c.args.stored.now) (stored-attrs c.args.stored.now) (sym c.is_countable.ensures ∙ c.if-not-is_countable.false) in
    let e = (p.rows c.loop-row.row (rw c.rows.ensures at c.loop-row-test.true)).state.ends in
    rw c.part.ensures (part-long 54 (c.loop-row.row * 54) c.args.stored.now.rows.now e)

pub row_figures-requires-clause-few : goal.row_figures-requires-clause-few
row_figures-requires-clause-few c =
    let p = is-whole c.args.screen (stored_words c.args.stored.now) (stored-attrs c.args.stored.now) (sym c.is_countable.ensures ∙ c.if-not-is_countable.false) in
    let i = p.few-commands in
    let j = p.few-fills in (
      rw c.buckets.ensures p.narrow,
      rw c.part-in-loop-row.ensures (part-short (4 * c.args.screen.c) 4096 _ (omega arith)),
      rw c.part-in-loop-row-2.ensures (part-short (2 * c.args.screen.d) 2048 _ (omega arith)),
    )

pub plus-figures-requires : goal.plus-figures-requires
plus-figures-requires c =
    let (up, few, _) = c.loop-row.invariant in
    let p = is-whole c.args.screen (stored_words c.args.stored.now) (stored-attrs c.args.stored.now) (sym c.is_countable.ensures ∙ c.if-not-is_countable.false) in
    let n = p.few in
    (c.loop-row.row * row-most, row-most, omega arith, few, c.row_figures.ensures.small)

pub loop-row-preserved : goal.loop-row-preserved
loop-row-preserved c =
    let (up, few, going) = c.loop-row.invariant in
    let there = rw c.rows.ensures at c.loop-row-test.true in
    let row = rw (c.part.ensures, c.part-in-loop-row.ensures, c.part-in-loop-row-2.ensures, c.buckets.ensures) at c.row_figures.ensures.figures in (
      omega arith,
      rw c.plus-figures.ensures (within-more (omega arith) (within-plus few c.row_figures.ensures.small)),
      one-row c.args.screen _ (stored_words c.args.stored.now) c.loop-row.row (count c.args.screen) _ _ _ there going row c.plus-figures.ensures,
    )

pub returns-clause-figures : goal.returns-clause-figures
returns-clause-figures c =
    let (_, _, going) = c.loop-row.invariant in
    counted c.args.screen (stored_words c.args.stored.now) (stored-attrs c.args.stored.now) _ (sym c.is_countable.ensures ∙ c.if-not-is_countable.false)
    (all-rows c.args.screen _ (stored_words c.args.stored.now) c.loop-row.row (count c.args.screen) _ (rw c.rows.ensures at c.loop-row-test.false) going)

pub returns-clause-small : goal.returns-clause-small
returns-clause-small c =
    let (up, few, _) = c.loop-row.invariant in
    let p = is-whole c.args.screen (stored_words c.args.stored.now) (stored-attrs c.args.stored.now) (sym c.is_countable.ensures ∙ c.if-not-is_countable.false) in
    let n = p.few in
    within-more (omega arith) few
