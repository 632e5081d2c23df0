-- One segment is all there is to draw.
use Rattle.std.proofs.Common.{rules}
use Rattle.fill.proofs.RowsLaws.{alone-asks, alone-room, alone-done, long_after}
use Rattle.fill.proofs.rows.fill_alone.Goals as goal

pub fill_segment-requires-clause-segment : goal.fill_segment-requires-clause-segment
fill_segment-requires-clause-segment g c = alone-asks c.requires.ready

pub fill_segment-requires-clause-room : goal.fill_segment-requires-clause-room
fill_segment-requires-clause-room g c = alone-room c.requires.ready

pub fill_segment-requires-else-job-clause-segment : goal.fill_segment-requires-else-job-clause-segment
fill_segment-requires-else-job-clause-segment g c = alone-asks c.requires.ready

pub fill_segment-requires-else-job-clause-room : goal.fill_segment-requires-else-job-clause-room
fill_segment-requires-else-job-clause-room g c = alone-room c.requires.ready

pub returns-then-job-clause-rows : goal.returns-then-job-clause-rows
returns-then-job-clause-rows g c =
    let l = c.requires.ready.fits.arenas.long in
    alone-done c.requires.ready _ (long_after _ _ _ l (search rules) (search rules) (search rules)) c.fill_segment.ensures.rows

pub returns-else-job-clause-rows : goal.returns-else-job-clause-rows
returns-else-job-clause-rows g c =
    let l = c.requires.ready.fits.arenas.long in
    alone-done c.requires.ready _ (long_after _ _ _ l (search rules) (search rules) (search rules)) c.fill_segment-else-job.ensures.rows
