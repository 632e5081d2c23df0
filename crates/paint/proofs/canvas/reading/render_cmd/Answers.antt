-- Row r's commands are cut out, and one is read.
use Rattle.std.proofs.Common.{arith}
use Rattle.std.proofs.lemmas.Result.{err_from_is_err_and}
use Rattle.paint.proofs.ScreenParts.{part_length}
use Rattle.paint.proofs.StoredCmds.{parts, counted, command_refused, no_command, command_done}
use Rattle.paint.proofs.canvas.reading.render_cmd.Goals as goal

pub returns-in_err-lengths : goal.returns-in_err-lengths
returns-in_err-lengths c =
    let p = err_from_is_err_and c.from_residual.result c.from_residual.ensures.1 in
    rw (p.1, p.2) (command_refused _ _ _ _ _ c.in_err-lengths.ensures)

pub returns-then-lengths-number : goal.returns-then-lengths-number
returns-then-lengths-number c = no_command _ _ _ _ _ c.in_ok-lengths.ensures c.if-lengths-number.true

pub part-cmds-requires : goal.part-cmds-requires
part-cmds-requires c = (parts _ _ _ (counted _ _ _ _ c.in_ok-lengths.ensures).there).render.ends

pub at-requires : goal.at-requires
at-requires c =
    let o = counted _ _ _ _ c.in_ok-lengths.ensures in
    let l = part_length _ _ _ (parts _ _ _ o.there).render in
    rw c.part-cmds.ensures (omega (arith, l, o.commands, c.if-lengths-number.false))

pub returns : goal.returns
returns c =
    rw c.ok_or.ensures.value
    (command_done _ _ _ _ _ c.in_ok-lengths.ensures c.if-lengths-number.false _ (rw (c.at.ensures, c.part-cmds.ensures) at c.read.ensures))
