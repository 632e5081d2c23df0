use Rattle.std.proofs.Common.{arith, rules}
use Rattle.row.proofs.RowsLaws.{rows-counted}
use Rattle.fill.proofs.RowsLaws.{filled, good-here, room-here, again, long_after}
use Rattle.fill.proofs.Runs.{after_run, kind-read}
use Rattle.fill.proofs.rows.fill_in.Goals as goal

pub fill_segment-requires : goal.fill_segment-requires
fill_segment-requires g c =
    let held = c.loop-i.invariant.1 in
    rw (rows-counted _ _ held.rest.fits.arenas.long.state)
    (record {
      split = c.requires.split;
      fits = held.rest.fits;
      segment = (omega (arith, held.rest.within), good-here held c.loop-i-test.true);
      room = room-here held c.loop-i-test.true;
    })

pub loop-i-preserved-then-segs-i-eq0 : goal.loop-i-preserved-then-segs-i-eq0
loop-i-preserved-then-segs-i-eq0 g c =
    let held = c.loop-i.invariant.1 in (
      search rules,
      again held c.loop-i-test.true _ (long_after _ _ _ held.rest.fits.arenas.long (search rules) (search rules) (search rules))
          (rw (rows-counted _ _ held.rest.fits.arenas.long.state) at c.fill_segment.ensures.rows),
    )

pub fill_run-i-requires : goal.fill_run-i-requires
fill_run-i-requires g c =
    let held = c.loop-i.invariant.1 in
    rw (rows-counted _ _ held.rest.fits.arenas.long.state) (record { ready = held.rest; some = c.loop-i-test.true; alpha = kind-read _ _ c.if-segs-i-eq0.false })

pub loop-i-preserved : goal.loop-i-preserved
loop-i-preserved g c =
    let held = c.loop-i.invariant.1 in
    let r = c.fill_run-i.ensures in (
      search rules,
      after_run held _ r.after.0 r.after.1 _ (long_after _ _ _ held.rest.fits.arenas.long (search rules) (search rules) (search rules))
          (rw (rows-counted _ _ held.rest.fits.arenas.long.state) at r.rows),
    )

pub returns : goal.returns
returns g c = record { same = c.loop-i.invariant.0; rows = filled c.loop-i.invariant.1 c.loop-i-test.false }
