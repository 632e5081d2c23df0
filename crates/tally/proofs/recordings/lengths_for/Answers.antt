use Rattle.std.proofs.Common.{arith}
use Rattle.screen.proofs.Blanks.{few-all}
use Rattle.screen.proofs.ScreenLaws.{few_rows, few-buckets}
use Rattle.tally.proofs.recordings.lengths_for.Goals as goal

pub overflow_mul-result-8 : goal.overflow_mul-result-8
overflow_mul-result-8 c =
    let rows = few_rows _ c.requires in
    let buckets = few-buckets _ c.requires c.args.screen.width in
    let few = few-all c.rows-n.result c.buckets-b.result (rw c.rows-n.ensures rows) (rw c.buckets-b.ensures buckets) in
    rw c.minima_room.ensures (omega (arith, few))
