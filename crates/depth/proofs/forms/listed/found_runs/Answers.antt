-- The words have room for every result, so that what `visible_runs` refuses is a bad range, and 14 is the list's own. Assumes nothing.
use Rattle.std.proofs.lemmas.Result.{err_from_is_err_and}
use Rattle.depth.proofs.Finding.{found-refused, found-short, found-kept}
use Rattle.depth.proofs.forms.listed.found_runs.Goals as goal

pub returns-in_err-count : goal.returns-in_err-count
returns-in_err-count c =
    let p = err_from_is_err_and c.from_residual.result c.from_residual.ensures.1 in
    rw (p.1, p.2) (found-refused _ _ _ _ _ _ _ _ c.in_err-count.ensures)

pub returns-then-room-count : goal.returns-then-room-count
returns-then-room-count c = found-short _ _ _ _ _ _ _ _ c.in_ok-count.ensures c.if-room-count.true

pub returns : goal.returns
returns c = found-kept _ _ _ _ _ _ _ _ c.in_ok-count.ensures c.if-room-count.false
