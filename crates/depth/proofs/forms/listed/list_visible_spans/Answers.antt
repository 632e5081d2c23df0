-- What is found is written, and no run is found where it is refused. Assumes nothing.
use Rattle.std.proofs.lemmas.Result.{err_from_is_err_and}
use Rattle.depth.proofs.Laws.{refused}
use Rattle.depth.proofs.Finding.{in-room, found-fits, found-written}
use Rattle.depth.proofs.forms.listed.list_visible_spans.Goals as goal

pub returns-in_err-found : goal.returns-in_err-found
returns-in_err-found c =
    let p = err_from_is_err_and c.from_residual.result c.from_residual.ensures.1 in
    rw (p.1, p.2) (refused _ _ _ _ c.in_err-found.ensures _)

pub write_runs-requires : goal.write_runs-requires
write_runs-requires c = found-fits _ _ _ _ (in-room _ _ _ _ _) _ c.in_ok-found.ensures

pub returns : goal.returns
returns c = rw c.write_runs.ensures (found-written _ _ _ _ (in-room _ _ _ _ _) _ c.in_ok-found.ensures)
