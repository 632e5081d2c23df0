-- At most 512 rows, and at most 256 minima a row.
use Rattle.std.proofs.Common.{arith}
use Rattle.screen.proofs.Blanks.{few-all}
use Rattle.host.proofs.sure.is_canvas_long.Goals as goal

pub overflow_mul-result-2 : goal.overflow_mul-result-2
overflow_mul-result-2 c =
    let few = few-all c.args.n c.args.b c.requires.0 c.requires.1 in
    rw c.minima_room.ensures (omega (arith, few))
