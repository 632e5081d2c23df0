-- The last row is looked at, for all.
use Rattle.paint.proofs.InOrder.{from_last}
use Rattle.host.proofs.rows.sure_rows.Goals as goal

pub returns : goal.returns
returns c few =
    let q = c.sure_buckets.ensures few in
    (from_last _ c.args.rows _ _ _ c.if-rows.false c.if-ends-rows.false q.0, q.1, q.2)
