-- The tests in the rules' order: what is given, then the depth of layers, then the rows of the box.
use Rattle.std.proofs.Common.{sym, ◌∙◌, arith, eq-eqb, ne_eqb}
use Rattle.std.proofs.lemmas.Bool.Decides.{nat_tests}
use Rattle.std.proofs.lemmas.Result.{err_from_is_err_and}
use Rattle.sizes.proofs.Refusals.{not_done}
use Rattle.row.specs.Rows.{all-held}
use Rattle.row.specs.Building.{step_number}
use Rattle.row.proofs.RoomLaws.{never_bad}
use Rattle.layers.specs.Push.{push-number}
use Rattle.layers.proofs.PushLaws.{lent-well, tests, rows-asked, number-of-rows}
use Rattle.layers.proofs.push.judge_push.Goals as goal

pub returns-then-not-is_good-clause-number : goal.returns-then-not-is_good-clause-number
returns-then-not-is_good-clause-number c =
    let q = lent-well c.args.screen (all-held c.args.rows.now) c.args.layers.now.table.now c.args.layers.now.opacities.now c.requires in
    let t = tests c.args.props c.args.screen (all-held c.args.rows.now) c.args.layers.now.table.now c.args.layers.now.opacities.now q.0 in
    grind (arith, nat_tests)

pub judge_rows-requires : goal.judge_rows-requires
judge_rows-requires c =
    let q = lent-well c.args.screen (all-held c.args.rows.now) c.args.layers.now.table.now c.args.layers.now.opacities.now c.requires in
    let k = rows-asked c.args.props _ (all-held c.args.rows.now) q.0 _ c.layer_box-bbox.ensures _ c.touch_rows-band.ensures in
    record { layers = k.0; room = k.1; few = k.2; there = k.3 }

pub returns-in_err-fault-clause-number : goal.returns-in_err-fault-clause-number
returns-in_err-fault-clause-number c =
    let q = lent-well c.args.screen (all-held c.args.rows.now) c.args.layers.now.table.now c.args.layers.now.opacities.now c.requires in
    let z = q.0 in
    let p = err_from_is_err_and c.from_residual.result c.from_residual.ensures.1 in
    let t = tests c.args.props c.args.screen (all-held c.args.rows.now) c.args.layers.now.table.now c.args.layers.now.opacities.now z in
    let r = number-of-rows c.args.props _ (all-held c.args.rows.now) z _ c.layer_box-bbox.ensures _ c.touch_rows-band.ensures _ (sym c.in_err-fault.ensures.1) in
    rw (p.1, p.2, c.in_err-fault.ensures.0) (grind (arith, nat_tests))

pub returns-then-screen-ge-MOST_LAYERS-clause-number : goal.returns-then-screen-ge-MOST_LAYERS-clause-number
returns-then-screen-ge-MOST_LAYERS-clause-number c =
    let q = lent-well c.args.screen (all-held c.args.rows.now) c.args.layers.now.table.now c.args.layers.now.opacities.now c.requires in
    let z = q.0 in
    let t = tests c.args.props c.args.screen (all-held c.args.rows.now) c.args.layers.now.table.now c.args.layers.now.opacities.now z in
    let r = number-of-rows c.args.props _ (all-held c.args.rows.now) z _ c.layer_box-bbox.ensures _ c.touch_rows-band.ensures _ c.in_ok-fault.ensures in
    let k = never_bad c.in_ok-fault.fault in
    grind (arith, nat_tests)

pub returns-in_err-answer-clause-number : goal.returns-in_err-answer-clause-number
returns-in_err-answer-clause-number c =
    let q = lent-well c.args.screen (all-held c.args.rows.now) c.args.layers.now.table.now c.args.layers.now.opacities.now c.requires in
    let z = q.0 in
    let p = err_from_is_err_and c.from_residual-in_err-answer.result c.from_residual-in_err-answer.ensures.1 in
    let t = tests c.args.props c.args.screen (all-held c.args.rows.now) c.args.layers.now.table.now c.args.layers.now.opacities.now z in
    let r = number-of-rows c.args.props _ (all-held c.args.rows.now) z _ c.layer_box-bbox.ensures _ c.touch_rows-band.ensures _ c.in_ok-fault.ensures in
    let k = never_bad c.in_ok-fault.fault in
    rw (p.1, p.2, c.in_err-answer.ensures) (grind (arith, nat_tests))

pub returns-clause-number : goal.returns-clause-number
returns-clause-number c =
    let q = lent-well c.args.screen (all-held c.args.rows.now) c.args.layers.now.table.now c.args.layers.now.opacities.now c.requires in
    let z = q.0 in
    let t = tests c.args.props c.args.screen (all-held c.args.rows.now) c.args.layers.now.table.now c.args.layers.now.opacities.now z in
    let r = number-of-rows c.args.props _ (all-held c.args.rows.now) z _ c.layer_box-bbox.ensures _ c.touch_rows-band.ensures _ c.in_ok-fault.ensures in
    let k = never_bad c.in_ok-fault.fault in
    grind (arith, nat_tests)
