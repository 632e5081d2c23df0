use Rattle.std.proofs.Common.{arith}
use Rattle.rect.specs.Rects.{box_of}
use Rattle.paint.proofs.Judged.{few-lent}
use Rattle.paint.proofs.canvas.judge.is_minima.Goals as goal

pub overflow_mul-result : goal.overflow_mul-result
overflow_mul-result c =
    let few = few-lent (box_of c.args.screen.viewport) c.args.screen.width (omega (arith, c.well_formed)) (omega (arith, c.well_formed)) in
    rw (c.minima_room.ensures, c.rows.ensures, c.buckets.ensures) (omega (arith, few))
