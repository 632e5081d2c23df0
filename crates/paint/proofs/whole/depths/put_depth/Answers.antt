-- An unset bucket begins a run: it gets the id up to its end, the minima above it are mended, and it is put.
use Rattle.std.proofs.Common.{◌∙◌, arith, length}
use Rattle.span.specs.Spans.{buckets}
use Rattle.rules.specs.Minima.{halvings}
use Rattle.depth.proofs.Groups.{room-of-some}
use Rattle.depth.proofs.Written.{room-for}
use Rattle.paint.proofs.DepthFills.{filled-on, filled-run, filled-end, run-room, run-holds, put-room, write-runs-visible}
use Rattle.paint.proofs.whole.depths.put_depth.Goals as goal
use Rattle.paint.proofs.whole.depths.put_depth.Goals.{then-depth-b-eq0, else-depth-b-eq0}

pub mend-requires-clause-group : goal.mend-requires-clause-group
mend-requires-clause-group c = (halvings (length c.args.depth.now), c.loop-b.invariant.filled.long ∙ c.requires.minima ∙ room-of-some _ (omega (arith, c.requires.good.1, c.loop-b-test.true)))

pub mend-requires-clause-range : goal.mend-requires-clause-range
mend-requires-clause-range c =
    (c.mark_run-b.ensures.past, room-for _ _ _ (c.loop-b.invariant.filled.long ∙ c.requires.minima) (omega (arith, c.mark_run-b.ensures.within, c.requires.good.1)))

pub push-requires : goal.push-requires
push-requires c =
    run-room _ _ _ _ _ _ _ _ _ _ _ c.requires.good.1 _ _ _ _ _ c.loop-b.invariant.filled c.loop-b-test.true _ _ c.mark_run-b.ensures (put-room c.args.depth.now (buckets c.args.fill.buckets) _ _ c.requires.room)

pub loop-b-preserved : goal.loop-b-preserved
loop-b-preserved c =
    let fits = c.requires.good.1 in
    let f = c.loop-b.invariant in
    elim c.if-depth-b-eq0.branch [
      | then-depth-b-eq0 w ↦
          let marks = w.mark_run-b.ensures in
          let holds = run-holds _ _ _ _ _ _ _ _ _ _ _ fits _ _ _ _ _ f.filled c.loop-b-test.true _ _ marks in
          let mended = w.mend.ensures _ _ (f.filled.long ∙ c.requires.minima ∙ room-of-some _ (omega (arith, fits, c.loop-b-test.true))) holds in
          rw (w.depth-is, w.minima-is, w.pieces-is, w.b-is, w.push.ensures.at) (record {
            filled = filled-run _ _ _ _ _ _ _ _ _ _ _ fits _ _ _ _ _ f.filled c.loop-b-test.true _ _ marks (put-room c.args.depth.now (buckets c.args.fill.buckets) _ _ c.requires.room) _ _
                (rw (w.times.ensures, w.times-then-depth-b-eq0.ensures) at w.push.ensures.list) mended w.mend.auto.minima;
            same = w.push.ensures.same ∙ f.same;
          })
      | else-depth-b-eq0 w ↦ rw (w.depth-is, w.minima-is, w.pieces-is, w.b-is) (record {
        filled = filled-on _ _ _ _ _ _ _ _ _ _ _ fits _ _ _ _ _ f.filled c.loop-b-test.true w.if-depth-b-eq0.false;
        same = f.same;
      })
    ]

pub returns-clause-depth : goal.returns-clause-depth
returns-clause-depth c = (filled-end _ _ _ _ _ _ _ _ _ _ _ _ _ _ _ _ c.loop-b.invariant.filled c.loop-b-test.false).0

pub returns-clause-at : goal.returns-clause-at
returns-clause-at c = rw write-runs-visible (filled-end _ _ _ _ _ _ _ _ _ _ _ _ _ _ _ _ c.loop-b.invariant.filled c.loop-b-test.false).1

pub returns-clause-list : goal.returns-clause-list
returns-clause-list c = rw write-runs-visible (filled-end _ _ _ _ _ _ _ _ _ _ _ _ _ _ _ _ c.loop-b.invariant.filled c.loop-b-test.false).2

pub returns-clause-minima : goal.returns-clause-minima
returns-clause-minima c =
    let e = filled-end _ _ _ _ _ _ _ _ _ _ _ _ _ _ _ _ c.loop-b.invariant.filled c.loop-b-test.false in
    rw (write-runs-visible, e.0) e.3
