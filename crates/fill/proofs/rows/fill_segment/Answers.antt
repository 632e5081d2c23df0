-- By where the segment is placed: nothing is done, or its act on its row.
use Rattle.std.proofs.Common.{sym, ◌∙◌}
use Rattle.fill.proofs.RowsLaws.{on-its-row, one_none, one-some}
use Rattle.fill.proofs.rows.fill_segment.Goals as goal

pub on_row-requires : goal.on_row-requires
on_row-requires g c =
    let o = on-its-row _ _ _ _ _ c.requires.fits (rw c.segment_at.ensures at c.in-Some.ensures) c.requires.segment.1 c.requires.room in
    (_, record { arenas = o.0.arenas; within = o.1; asked = (o.2, o.0.layers, c.requires.split); room = o.3 })

pub returns-in-Some-clause-rows : goal.returns-in-Some-clause-rows
returns-in-Some-clause-rows g c =
    let o = on-its-row _ _ _ _ _ c.requires.fits (rw c.segment_at.ensures at c.in-Some.ensures) c.requires.segment.1 c.requires.room in
    c.on_row.ensures _ (record { arenas = o.0.arenas; within = o.1; asked = (o.2, o.0.layers, c.requires.split); room = o.3 })
    ∙ sym (one-some c.args.job _ _ _ (rw c.segment_at.ensures at c.in-Some.ensures))

pub returns-in_default-clause-rows : goal.returns-in_default-clause-rows
returns-in_default-clause-rows g c = sym (one_none c.args.job _ _ (rw c.segment_at.ensures at c.in_default.ensures))
