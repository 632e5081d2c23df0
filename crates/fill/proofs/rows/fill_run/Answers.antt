-- Nothing is left of the segment, or its row is lent for the run that it begins, and comes back changed once.
use Rattle.std.proofs.Common.{ap, ◌∙◌, arith}
use Rattle.rules.specs.Segments.{Segment, good-segment}
use Rattle.segments.proofs.Laws.{good-first}
use Rattle.row.proofs.RowsLaws.{x-end, z-end}
use Rattle.fill.proofs.Runs.{row-there, run_lent, run-back, nothing_put}
use Rattle.fill.proofs.rows.fill_run.Goals as goal

pub place-requires : goal.place-requires
place-requires g c = (ap good-segment c.segment_at-first.ensures ∙ good-first _ _ _ c.requires.some c.requires.ready.good, c.requires.ready.fits.starts)

pub place_of-p-requires : goal.place_of-p-requires
place_of-p-requires g c =
    let o = c.requires.ready.fits.arenas in
    (o.c, o.d, omega (arith, o.rows, row-there c.requires.ready c.requires.some _ (rw c.segment_at-first.ensures at c.in-Some.ensures)))

pub slice_bounds-push_run-end : goal.slice_bounds-push_run-end
slice_bounds-push_run-end g c =
    x-end c.requires.ready.fits.arenas (row-there c.requires.ready c.requires.some _ (rw c.segment_at-first.ensures at c.in-Some.ensures)) c.place_of-p.ensures

pub push_run-requires : goal.push_run-requires
push_run-requires g c =
    run_lent c.requires.ready c.requires.some _ (rw c.segment_at-first.ensures at c.in-Some.ensures) (ap (λ (s : Segment). s.row) c.segment_at-first.ensures)
    c.place_of-p.ensures c.requires.alpha

pub returns : goal.returns
returns g c =
    let r = c.push_run.ensures in
    record {
      after = r.after;
      rows =
          run-back c.requires.ready c.requires.some _ (rw c.segment_at-first.ensures at c.in-Some.ensures) (ap (λ (s : Segment). s.row) c.segment_at-first.ensures)
          c.place_of-p.ensures _ r.after.0 r.after.1 r.on _ _ _ r.row;
    }

pub returns-in_default : goal.returns-in_default
returns-in_default g c =
    record {
      after = (omega arith, omega (arith, c.requires.some));
      rows = nothing_put c.args.job c.args.segs.now c.args.start _ (rw c.segment_at-first.ensures at c.in_default.ensures);
    }

pub slice_bounds-push_run-end-3 : goal.slice_bounds-push_run-end-3
slice_bounds-push_run-end-3 g c =
    z-end c.requires.ready.fits.arenas (row-there c.requires.ready c.requires.some _ (rw c.segment_at-first.ensures at c.in-Some.ensures)) c.place_of-p.ensures
