-- Row r's depth fills are cut out, and one is read.
use Rattle.std.proofs.Common.{arith}
use Rattle.std.proofs.lemmas.Result.{err_from_is_err_and}
use Rattle.paint.proofs.ScreenParts.{part_length}
use Rattle.paint.proofs.StoredCmds.{parts, counted, depth_refused, no_depth, depth_done}
use Rattle.paint.proofs.canvas.reading.depth_cmd.Goals as goal

pub returns-in_err-lengths : goal.returns-in_err-lengths
returns-in_err-lengths c =
    let p = err_from_is_err_and c.from_residual.result c.from_residual.ensures.1 in
    rw (p.1, p.2) (depth_refused _ _ _ _ _ c.in_err-lengths.ensures)

pub returns-then-lengths-number : goal.returns-then-lengths-number
returns-then-lengths-number c = no_depth _ _ _ _ _ c.in_ok-lengths.ensures c.if-lengths-number.true

pub part-cmds-requires : goal.part-cmds-requires
part-cmds-requires c = (parts _ _ _ (counted _ _ _ _ c.in_ok-lengths.ensures).there).fills.ends

pub at-requires : goal.at-requires
at-requires c =
    let o = counted _ _ _ _ c.in_ok-lengths.ensures in
    let l = part_length _ _ _ (parts _ _ _ o.there).fills in
    rw c.part-cmds.ensures (omega (arith, l, o.depths, c.if-lengths-number.false))

pub returns : goal.returns
returns c =
    rw c.ok_or.ensures.value
    (depth_done _ _ _ _ _ c.in_ok-lengths.ensures c.if-lengths-number.false _ (rw (c.at.ensures, c.part-cmds.ensures, c.buckets.ensures) at c.read.ensures))
