-- The layer's words are read once and judged; then its clip's list, if it has one, and the rows of its box.
use Rattle.std.proofs.Common.{refl, ap, not, arith}
use Rattle.std.proofs.lemmas.Result.{err_from_is_err_and}
use Rattle.row.specs.Rows.{all-held}
use Rattle.screen.proofs.ScreenLaws.{bounds}
use Rattle.screen.proofs.Passed.{passed}
use Rattle.layers.proofs.Passing.{passed-whole}
use Rattle.pop.proofs.Opening.{open-bad, open-range, open-small, open-scene, open-bottom, open_plain, open-long, open-clip}
use Rattle.pop.proofs.judge.judge_open.Goals as goal

pub open_at-layer-requires : goal.open_at-layer-requires
open_at-layer-requires c =
    let o = passed _ _ _ _ c.requires.screen in
    record { level = omega (arith, (bounds _ o.screen).deep); long = c.requires.table }

pub parent_box-parent-requires : goal.parent_box-parent-requires
parent_box-parent-requires c =
    let o = passed _ _ _ _ c.requires.screen in record { some = c.requires.some; deep = (bounds _ o.screen).deep; table = c.requires.table }

pub returns-then-not-is_good_open-clause-number : goal.returns-then-not-is_good_open-clause-number
returns-then-not-is_good_open-clause-number c =
    let o = passed _ _ _ _ c.requires.screen in
    open-bad _ (all-held c.args.rows.now) _ c.args.list.now c.requires.some o _ c.open_at-layer.ensures _ c.parent_box-parent.ensures c.is_good_open.ensures
    (ap not c.if-not-is_good_open.true)

pub judge_plain-requires : goal.judge_plain-requires
judge_plain-requires c =
    let o = passed _ _ _ _ c.requires.screen in
    let bottom = open-bottom _ (all-held c.args.rows.now) _ c.args.list.now c.requires.some o _ c.open_at-layer.ensures _ c.parent_box-parent.ensures c.is_good_open.ensures
    (ap not c.if-not-is_good_open.false) c.rows-band.ensures.first c.rows-band.ensures.last in record { whole = passed-whole _ _ o; band = bottom; some = c.requires.some; deep = (bounds _ o.screen).deep }

pub returns-in_err-judge_plain-clause-number : goal.returns-in_err-judge_plain-clause-number
returns-in_err-judge_plain-clause-number c =
    let p = err_from_is_err_and c.from_residual.result c.from_residual.ensures.1 in
    let o = passed _ _ _ _ c.requires.screen in
    rw (p.1, p.2)
    (open_plain _ (all-held c.args.rows.now) _ c.args.list.now c.requires.some o _ c.open_at-layer.ensures _ c.parent_box-parent.ensures c.is_good_open.ensures
    (ap not c.if-not-is_good_open.false) c.rows-band.ensures.first c.rows-band.ensures.last c.if-layer-eq0.true c.in_err-judge_plain.ensures)

pub returns-then-layer-eq0-clause-number : goal.returns-then-layer-eq0-clause-number
returns-then-layer-eq0-clause-number c =
    let o = passed _ _ _ _ c.requires.screen in
    open_plain _ (all-held c.args.rows.now) _ c.args.list.now c.requires.some o _ c.open_at-layer.ensures _ c.parent_box-parent.ensures c.is_good_open.ensures
    (ap not c.if-not-is_good_open.false) c.rows-band.ensures.first c.rows-band.ensures.last c.if-layer-eq0.true c.in_ok-judge_plain.ensures

pub returns-then-list-layer-clause-number : goal.returns-then-list-layer-clause-number
returns-then-list-layer-clause-number c =
    let o = passed _ _ _ _ c.requires.screen in
    open-long _ (all-held c.args.rows.now) _ c.args.list.now c.requires.some o _ c.open_at-layer.ensures _ c.parent_box-parent.ensures c.is_good_open.ensures
    (ap not c.if-not-is_good_open.false) c.rows-band.ensures.first c.rows-band.ensures.last c.if-layer-eq0.false refl refl
    c.if-list-layer.true

pub scene_of-requires : goal.scene_of-requires
scene_of-requires c =
    let o = passed _ _ _ _ c.requires.screen in
    open-small _ (all-held c.args.rows.now) _ c.args.list.now c.requires.some o _ c.open_at-layer.ensures _ c.parent_box-parent.ensures c.is_good_open.ensures
    (ap not c.if-not-is_good_open.false)

pub judge_clip-requires : goal.judge_clip-requires
judge_clip-requires c =
    let o = passed _ _ _ _ c.requires.screen in
    let e = c.open_at-layer.ensures in
    let p = c.parent_box-parent.ensures in
    let good = ap not c.if-not-is_good_open.false in
    let ordered = open-range _ (all-held c.args.rows.now) _ c.args.list.now c.requires.some o _ e _ p c.is_good_open.ensures good in record { known = c.requires.known; whole = passed-whole _ _ o; band = open-bottom _ (all-held c.args.rows.now) _ c.args.list.now c.requires.some o _ e _ p c.is_good_open.ensures good c.rows-band.ensures.first c.rows-band.ensures.last; some = c.requires.some; deep = (bounds _ o.screen).deep; ordered = omega arith; listed = omega arith; starts = open-scene _ (all-held c.args.rows.now) _ c.args.list.now c.requires.some o _ e _ p c.is_good_open.ensures good _ c.scene_of.ensures }

pub returns-in_err-judge_clip-clause-number : goal.returns-in_err-judge_clip-clause-number
returns-in_err-judge_clip-clause-number c =
    let p = err_from_is_err_and c.from_residual-in_err-judge_clip.result c.from_residual-in_err-judge_clip.ensures.1 in
    let o = passed _ _ _ _ c.requires.screen in
    rw (p.1, p.2)
    (open-clip _ (all-held c.args.rows.now) _ c.args.list.now c.requires.some o _ c.open_at-layer.ensures _ c.parent_box-parent.ensures c.is_good_open.ensures
    (ap not c.if-not-is_good_open.false) c.rows-band.ensures.first c.rows-band.ensures.last c.if-layer-eq0.false refl refl
    c.if-list-layer.false _ c.scene_of.ensures c.in_err-judge_clip.ensures)

pub returns-clause-number : goal.returns-clause-number
returns-clause-number c =
    let o = passed _ _ _ _ c.requires.screen in
    open-clip _ (all-held c.args.rows.now) _ c.args.list.now c.requires.some o _ c.open_at-layer.ensures _ c.parent_box-parent.ensures c.is_good_open.ensures
    (ap not c.if-not-is_good_open.false) c.rows-band.ensures.first c.rows-band.ensures.last c.if-layer-eq0.false refl refl
    c.if-list-layer.false _ c.scene_of.ensures c.in_ok-judge_clip.ensures
