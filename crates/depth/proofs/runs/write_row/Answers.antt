-- Each refusal is the rules' answer, in the order of the tests; past them the list has room for the runs, which are listed, written and mended.
use Rattle.std.proofs.Common.{sym, ◌∙◌, eqb-true}
use Rattle.depth.proofs.Answering.{write-unfit, write-backward, write-past, write-no-id, write-short, write_done, list-room}
use Rattle.depth.proofs.runs.write_row.Goals as goal
use Rattle.depth.proofs.runs.write_row.Goals.{then-hi-lo-via-then-hi-lo, then-hi-lo-via-else-hi-lo+then-words-hi, then-hi-lo-via-else-hi-lo+else-words-hi+then-draw_id-eq0}

pub returns-then-not-has_room : goal.returns-then-not-has_room
returns-then-not-has_room c = write-unfit _ _ _ _ _ (sym c.has_room.ensures ∙ c.if-not-has_room.true)

pub returns-then-hi-lo : goal.returns-then-hi-lo
returns-then-hi-lo c =
    let fit = sym c.has_room.ensures ∙ c.if-not-has_room.false in
    elim c.then-hi-lo.branch [
      | then-hi-lo-via-then-hi-lo w ↦ write-backward _ _ _ _ _ fit w.if-hi-lo.true
      | then-hi-lo-via-else-hi-lo+then-words-hi w ↦ write-past _ _ _ _ _ fit w.if-words-hi.true
      | then-hi-lo-via-else-hi-lo+else-words-hi+then-draw_id-eq0 w ↦ write-no-id _ _ _ _ _ fit w.if-draw_id-eq0.true
    ]

pub returns-then-is_short : goal.returns-then-is_short
returns-then-is_short c =
    let fit = sym c.has_room.ensures ∙ c.if-not-has_room.false in
    write-short _ _ _ _ _ fit c.if-hi-lo.false c.if-words-hi.false c.if-draw_id-eq0.false (sym c.if-is_short.true ∙ c.is_short.ensures)

pub mark_and_mend-requires-clause-room : goal.mark_and_mend-requires-clause-room
mark_and_mend-requires-clause-room c = eqb-true _ _ (sym c.has_room.ensures ∙ c.if-not-has_room.false)

pub returns : goal.returns
returns c =
    let fit = sym c.has_room.ensures ∙ c.if-not-has_room.false in
    let after = c.mark_and_mend.ensures in
    write_done _ _ _ _ _ fit c.if-hi-lo.false c.if-words-hi.false c.if-draw_id-eq0.false _ _ _ _ (sym c.if-is_short.false ∙ c.is_short.ensures)
    after.list_after after.words_after after.minima_after

pub mark_and_mend-requires-clause-list_room : goal.mark_and_mend-requires-clause-list_room
mark_and_mend-requires-clause-list_room c = list-room _ _ (sym c.if-is_short.false ∙ c.is_short.ensures)
