-- A form that cannot be read comes first, then the viewport, the records, the story, the tile and the room.
use Rattle.std.proofs.Common.{sym, ◌∙◌}
use Rattle.std.proofs.lemmas.Result.{err_from_is_err_and}
use Rattle.file.specs.Held.{held}
use Rattle.tile.proofs.ListTold.{list-formless, list-unseen, list-badly, list-stopped, list-past, list-on}
use Rattle.rect.specs.Rects.{mode_of}
use Rattle.rect.proofs.Snapping.{bad-seen}
use Rattle.tile.proofs.Spots.{spotted, spotted_somewhere}
use Rattle.tile.proofs.Views.{box-seen, box-good, own-good, box-unseen}
use Rattle.tile.proofs.list.list_tile.Goals as goal

pub returns-in_err-file-clause-listed : goal.returns-in_err-file-clause-listed
returns-in_err-file-clause-listed c =
    let p = err_from_is_err_and c.from_residual.result c.from_residual.ensures.1 in
    rw (p.1, p.2, c.in_err-file.ensures.0) (list-formless _ _ _ _ _ _ c.in_err-file.ensures.1)

pub returns-in_err-viewport-clause-listed : goal.returns-in_err-viewport-clause-listed
returns-in_err-viewport-clause-listed c =
    let r = c.in_ok-file.file in
    let m = mode_of c.args.mode in
    let p = err_from_is_err_and c.from_residual-in_err-viewport.result c.from_residual-in_err-viewport.ensures.1 in
    let bad = box-unseen (held r).viewport m _ c.viewport.ensures c.in_err-viewport.ensures in
    rw (p.1, p.2, (bad-seen _ _ c.in_err-viewport.ensures).1)
    (list-unseen m c.args.width _ c.args.row c.args.tile _ (held r) c.in_ok-file.ensures.1 bad)

pub returns-in_err-judge-clause-listed : goal.returns-in_err-judge-clause-listed
returns-in_err-judge-clause-listed c =
    let r = c.in_ok-file.file in
    let m = mode_of c.args.mode in
    let p = err_from_is_err_and c.from_residual-in_err-judge.result c.from_residual-in_err-judge.ensures.1 in
    let good = box-good (held r).viewport m _ c.viewport.ensures _ c.in_ok-viewport.ensures in
    rw (p.1, p.2)
    (list-badly m c.args.width _ c.args.row c.args.tile _ (held r) c.in_ok-file.ensures.1 good _ c.in_err-judge.ensures)

pub tell_spot-requires-clause-spot : goal.tell_spot-requires-clause-spot
tell_spot-requires-clause-spot c =
    let r = c.in_ok-file.file in
    let m = mode_of c.args.mode in
    let v = c.in_ok-viewport.viewport in
    let good = own-good (held r).viewport m _ c.viewport.ensures v c.in_ok-viewport.ensures in
    rw c.spot_of.ensures
    (spotted_somewhere v good c.args.width c.args.row c.args.tile c.is_off_screen-off.result c.is_off_screen-off.ensures)

pub returns-in_err-tale-clause-listed : goal.returns-in_err-tale-clause-listed
returns-in_err-tale-clause-listed c =
    let r = c.in_ok-file.file in
    let m = mode_of c.args.mode in
    let p = err_from_is_err_and c.from_residual-in_err-tale.result c.from_residual-in_err-tale.ensures.1 in
    let good = box-good (held r).viewport m _ c.viewport.ensures _ c.in_ok-viewport.ensures in
    let same = box-seen (held r).viewport m _ c.viewport.ensures _ c.in_ok-viewport.ensures in
    rw (p.1, p.2)
    (list-stopped m c.args.width _ c.args.row c.args.tile _ (held r) c.in_ok-file.ensures.1 good (sym c.in_ok-judge.ensures) _ same _ c.is_off_screen-off.ensures _
    c.spot_of.ensures _ c.in_err-tale.ensures)

pub returns-then-off-clause-listed : goal.returns-then-off-clause-listed
returns-then-off-clause-listed c =
    let r = c.in_ok-file.file in
    let m = mode_of c.args.mode in
    let good = box-good (held r).viewport m _ c.viewport.ensures _ c.in_ok-viewport.ensures in
    let same = box-seen (held r).viewport m _ c.viewport.ensures _ c.in_ok-viewport.ensures in
    list-past m c.args.width _ c.args.row c.args.tile _ (held r) c.in_ok-file.ensures.1 good (sym c.in_ok-judge.ensures) _ same _ c.is_off_screen-off.ensures _
    c.spot_of.ensures _ c.in_ok-tale.ensures.0 c.if-off.true

pub put_list-requires-clause-tile : goal.put_list-requires-clause-tile
put_list-requires-clause-tile c =
    let r = c.in_ok-file.file in
    let m = mode_of c.args.mode in
    let v = c.in_ok-viewport.viewport in
    let good = own-good (held r).viewport m _ c.viewport.ensures v c.in_ok-viewport.ensures in
    (spotted v good c.args.width c.args.row c.args.tile (sym c.is_off_screen-off.ensures ∙ c.if-off.false)).tile

pub returns-clause-listed : goal.returns-clause-listed
returns-clause-listed c =
    let r = c.in_ok-file.file in
    let m = mode_of c.args.mode in
    let good = box-good (held r).viewport m _ c.viewport.ensures _ c.in_ok-viewport.ensures in
    let same = box-seen (held r).viewport m _ c.viewport.ensures _ c.in_ok-viewport.ensures in
    list-on m c.args.width _ c.args.row c.args.tile _ (held r) c.in_ok-file.ensures.1 good (sym c.in_ok-judge.ensures) _ same _ c.is_off_screen-off.ensures _
    c.spot_of.ensures _ c.in_ok-tale.ensures.0 c.if-off.false _ c.put_list.ensures.listed
