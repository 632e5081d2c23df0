-- Row r's record is cut out and read.
use Rattle.std.proofs.Common.{refl, arith}
use Rattle.std.proofs.lemmas.Result.{err_from_is_err_and}
use Rattle.paint.proofs.ScreenParts.{part_length}
use Rattle.paint.proofs.StoredCmds.{parts, lengths_refused, lengths_done}
use Rattle.paint.proofs.canvas.reading.row_lengths.Goals as goal

pub returns-in_err-judge_stored : goal.returns-in_err-judge_stored
returns-in_err-judge_stored c =
    let p = err_from_is_err_and c.from_residual.result c.from_residual.ensures.1 in
    rw (p.1, p.2) (lengths_refused _ _ _ _ c.in_err-judge_stored.ensures)

pub part-state-requires : goal.part-state-requires
part-state-requires c = (parts _ _ _ c.in_ok-judge_stored.ensures).state.ends

pub bounds-state-0 : goal.bounds-state-0
bounds-state-0 c = let l = part_length 54 _ _ (parts _ _ _ c.in_ok-judge_stored.ensures).state in rw c.part-state.ensures (omega (arith, l))

pub bounds-state-1 : goal.bounds-state-1
bounds-state-1 c = let l = part_length 54 _ _ (parts _ _ _ c.in_ok-judge_stored.ensures).state in rw c.part-state.ensures (omega (arith, l))

pub returns-then-not-has_room : goal.returns-then-not-has_room
returns-then-not-has_room c =
    lengths_done _ _ _ c.in_ok-judge_stored.ensures _
    (rw (← c.part-state.ensures, ← c.has_room.ensures, c.if-not-has_room.true) refl)

pub returns : goal.returns
returns c =
    lengths_done _ _ _ c.in_ok-judge_stored.ensures _
    (rw (← c.part-state.ensures, ← c.has_room.ensures, c.if-not-has_room.false) refl)
