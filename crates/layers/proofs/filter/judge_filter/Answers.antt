-- The tests in the rules' order: what is given, then ids and attributes, then the rows of the box.
use Rattle.std.proofs.Common.{sym, ◌∙◌, true, eq-eqb, ne_eqb, arith}
use Rattle.std.proofs.lemmas.Bool.Decides.{nat_tests}
use Rattle.std.proofs.lemmas.Result.{err_from_is_err_and}
use Rattle.row.specs.Building.{step_number}
use Rattle.sizes.proofs.Refusals.{not_done}
use Rattle.row.specs.Rows.{all-held}
use Rattle.row.proofs.RoomLaws.{never_bad}
use Rattle.layers.specs.Filter.{given_of, filter-number}
use Rattle.layers.proofs.FilterLaws.{lent-well, own-tests, tests, rows-asked, told-by}
use Rattle.layers.proofs.filter.judge_filter.Goals as goal

pub returns-then-not-is_good-clause-number : goal.returns-then-not-is_good-clause-number
returns-then-not-is_good-clause-number c =
    let q = lent-well c.args.screen (all-held c.args.rows.now) c.args.paint_attrs.now c.args.filter_paints.now c.requires in
    let t = own-tests (given_of c.args.fill) c.args.screen (all-held c.args.rows.now) c.args.paint_attrs.now c.args.filter_paints.now q.0 in
    sym (t ∙ rw (q.1, q.2, sym c.is_good.ensures ∙ c.if-not-is_good.true))

pub returns-then-draws_nothing : goal.returns-then-draws_nothing
returns-then-draws_nothing c =
    let q = lent-well c.args.screen (all-held c.args.rows.now) c.args.paint_attrs.now c.args.filter_paints.now c.requires in
    let t = tests (given_of c.args.fill) c.args.screen (all-held c.args.rows.now) c.args.paint_attrs.now c.args.filter_paints.now q.0 _ c.filter_box-bbox.ensures in
    record {
      drawn = told-by (given_of c.args.fill) c.args.screen _ true c.filter_box-bbox.ensures (sym c.draws_nothing.ensures ∙ c.if-draws_nothing.true);
      number = grind (arith, nat_tests);
    }

pub judge_rows-requires : goal.judge_rows-requires
judge_rows-requires c =
    let q = lent-well c.args.screen (all-held c.args.rows.now) c.args.paint_attrs.now c.args.filter_paints.now c.requires in
    let k = rows-asked (given_of c.args.fill) _ (all-held c.args.rows.now) q.0 _ c.filter_box-bbox.ensures in
    record { layers = k.0; room = k.1; few = rw c.rows.ensures.last k.2; there = rw c.rows.ensures.last k.3 }

pub returns-in_err-fault-clause-number : goal.returns-in_err-fault-clause-number
returns-in_err-fault-clause-number c =
    let q = lent-well c.args.screen (all-held c.args.rows.now) c.args.paint_attrs.now c.args.filter_paints.now c.requires in
    let p = err_from_is_err_and c.from_residual.result c.from_residual.ensures.1 in
    let t = tests (given_of c.args.fill) c.args.screen (all-held c.args.rows.now) c.args.paint_attrs.now c.args.filter_paints.now q.0 _ c.filter_box-bbox.ensures in
    let r = rw (c.rows.ensures.first, c.rows.ensures.last) at c.in_err-fault.ensures.1 in
    rw (p.1, p.2, c.in_err-fault.ensures.0) (grind (arith, nat_tests))

pub returns-then-screen-gt-LAST_ID-clause-number : goal.returns-then-screen-gt-LAST_ID-clause-number
returns-then-screen-gt-LAST_ID-clause-number c =
    let q = lent-well c.args.screen (all-held c.args.rows.now) c.args.paint_attrs.now c.args.filter_paints.now c.requires in
    let t = tests (given_of c.args.fill) c.args.screen (all-held c.args.rows.now) c.args.paint_attrs.now c.args.filter_paints.now q.0 _ c.filter_box-bbox.ensures in
    let r = rw (c.rows.ensures.first, c.rows.ensures.last) at c.in_ok-fault.ensures in
    let k = never_bad c.in_ok-fault.fault in
    grind (arith, nat_tests)

pub returns-then-screen-ge-MOST_ATTRS-clause-number : goal.returns-then-screen-ge-MOST_ATTRS-clause-number
returns-then-screen-ge-MOST_ATTRS-clause-number c =
    let q = lent-well c.args.screen (all-held c.args.rows.now) c.args.paint_attrs.now c.args.filter_paints.now c.requires in
    let t = tests (given_of c.args.fill) c.args.screen (all-held c.args.rows.now) c.args.paint_attrs.now c.args.filter_paints.now q.0 _ c.filter_box-bbox.ensures in
    let r = rw (c.rows.ensures.first, c.rows.ensures.last) at c.in_ok-fault.ensures in
    let k = never_bad c.in_ok-fault.fault in
    grind (arith, nat_tests)

pub returns-in_err-answer-clause-number : goal.returns-in_err-answer-clause-number
returns-in_err-answer-clause-number c =
    let q = lent-well c.args.screen (all-held c.args.rows.now) c.args.paint_attrs.now c.args.filter_paints.now c.requires in
    let p = err_from_is_err_and c.from_residual-in_err-answer.result c.from_residual-in_err-answer.ensures.1 in
    let t = tests (given_of c.args.fill) c.args.screen (all-held c.args.rows.now) c.args.paint_attrs.now c.args.filter_paints.now q.0 _ c.filter_box-bbox.ensures in
    let r = rw (c.rows.ensures.first, c.rows.ensures.last) at c.in_ok-fault.ensures in
    let k = never_bad c.in_ok-fault.fault in
    rw (p.1, p.2, c.in_err-answer.ensures) (grind (arith, nat_tests))

pub returns : goal.returns
returns c =
    let q = lent-well c.args.screen (all-held c.args.rows.now) c.args.paint_attrs.now c.args.filter_paints.now c.requires in
    let t = tests (given_of c.args.fill) c.args.screen (all-held c.args.rows.now) c.args.paint_attrs.now c.args.filter_paints.now q.0 _ c.filter_box-bbox.ensures in
    let r = rw (c.rows.ensures.first, c.rows.ensures.last) at c.in_ok-fault.ensures in
    let k = never_bad c.in_ok-fault.fault in
    record { drawn = (c.filter_box-bbox.ensures, sym c.draws_nothing.ensures ∙ c.if-draws_nothing.false); number = c.in_ok-answer.ensures ∙ grind (arith, nat_tests) }
