-- The segment is cut; on a touched row of the box it becomes a LayerFill, elsewhere nothing.
use Rattle.std.proofs.Common.{◌-◌, refl, sym, ap, ◌∙◌, not}
use Rattle.segments.specs.Segs.{seg-at}
use Rattle.pop.proofs.Clipping.{one_none, one_out, one_in}
use Rattle.pop.proofs.Judging.{touched-no, touched-yes, clip-here}
use Rattle.pop.proofs.Banded.{cut-among}
use Rattle.pop.proofs.close.close_segment.Goals as goal

pub is_touched_row-requires-clause-among : goal.is_touched_row-requires-clause-among
is_touched_row-requires-clause-among c = cut-among _ _ _ _ c.requires.among (rw c.segment_at.ensures at c.in-Some.ensures)

pub returns-then-not-is_touched_row-clause-rows : goal.returns-then-not-is_touched_row-clause-rows
returns-then-not-is_touched_row-clause-rows c =
    sym
    (one_out _ (c.args.screen.layers - 1) c.args.screen.layer_attrs _ _ _ _ (rw c.segment_at.ensures at c.in-Some.ensures)
    (touched-no c.requires.whole _ _ _ c.requires.band _ c.is_touched_row.ensures refl (ap not c.if-not-is_touched_row.true)))

pub on_row-requires : goal.on_row-requires
on_row-requires c =
    let h = clip-here c.requires.whole _ _ _ _ (c.args.screen.layers - 1) c.args.screen.layer_attrs c.args.scene
    (seg-at c.args.list.now c.args.i) _ c.requires.band c.requires.segment.1 c.requires.starts (rw c.segment_at.ensures at c.in-Some.ensures)
    (touched-yes c.requires.whole _ _ _ c.requires.band _ c.is_touched_row.ensures refl (ap not c.if-not-is_touched_row.false)) c.requires.room in
    (_, record { arenas = h.0; within = h.1; asked = h.2; room = h.3 })

pub returns-in_default-clause-rows : goal.returns-in_default-clause-rows
returns-in_default-clause-rows c =
    sym (one_none _ (c.args.screen.layers - 1) c.args.screen.layer_attrs _ _ _ (rw c.segment_at.ensures at c.in_default.ensures))

pub returns-clause-rows : goal.returns-clause-rows
returns-clause-rows c =
    let h = clip-here c.requires.whole _ _ _ _ (c.args.screen.layers - 1) c.args.screen.layer_attrs c.args.scene
    (seg-at c.args.list.now c.args.i) _ c.requires.band c.requires.segment.1 c.requires.starts (rw c.segment_at.ensures at c.in-Some.ensures)
    (touched-yes c.requires.whole _ _ _ c.requires.band _ c.is_touched_row.ensures refl (ap not c.if-not-is_touched_row.false)) c.requires.room in
    c.on_row.ensures _ (record { arenas = h.0; within = h.1; asked = h.2; room = h.3 })
    ∙ sym
    (one_in _ (c.args.screen.layers - 1) c.args.screen.layer_attrs _ _ _ _ (rw c.segment_at.ensures at c.in-Some.ensures)
    (touched-yes c.requires.whole _ _ _ c.requires.band _ c.is_touched_row.ensures refl (ap not c.if-not-is_touched_row.false)))
