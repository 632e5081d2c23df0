-- A walk of one segment, whose row has room.
use Rattle.std.proofs.Common.{◌≡◌}
use Rattle.fill.proofs.Sure.{split_off, solid_alone, alpha-alone}
use Rattle.fill.proofs.single.is_sure.Goals as goal
use Rattle.fill.proofs.single.is_sure.Goals.{then-job, else-job}

pub returns-then-list-at-eq0 : goal.returns-then-list-at-eq0
returns-then-list-at-eq0 c =
    let weighed : c.if-job.has_room_at ≡ split_off c.args.job.eligible 1 =
    elim c.if-job.branch [ then-job w ↦ rw w.if-job.true w.has_room_at-is | else-job w ↦ rw w.if-job.false w.has_room_at-is ] in
    λ e. solid_alone _ _ c.requires.rows c.requires.list c.if-row-ge-TILE_END.false c.if-end-first.false c.if-end-gt-TILE_END.false weighed
    c.if-list-at-eq0.true c.if-list-at-ne0.false (c.has_room_at.ensures e)

pub returns : goal.returns
returns c =
    λ e. alpha-alone _ _ c.requires.rows c.requires.list c.if-row-ge-TILE_END.false c.if-end-first.false c.if-end-gt-TILE_END.false
    c.if-list-at-ne1.false c.if-end-first-2.false (c.has_room_at-2.ensures e)
