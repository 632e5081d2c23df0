use Rattle.std.proofs.Common.{◌∙◌}
use Rattle.paint.proofs.Putting.{put_more}
use Rattle.paint.proofs.whole.pieces.put_fill.Goals as goal

pub loop-run-preserved : goal.loop-run-preserved
loop-run-preserved c =
    let next = rw (c.above-end.ensures, c.end.ensures) at c.in-Some.ensures.runs in
    let list = c.push.ensures.list ∙ rw c.piece.ensures in
    record {
      put = rw c.push.ensures.at (put_more _ _ _ _ _ _ _ _ _ _ _ _ _ c.loop-run.invariant.put c.requires.room _ _ next _ list);
      same = c.push.ensures.same ∙ c.loop-run.invariant.same;
    }
