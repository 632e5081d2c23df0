use Rattle.host.proofs.Listed.{found-fits, spans-written}
use Rattle.host.proofs.spans.coarse_visible_spans.Goals as goal

pub write_runs-requires : goal.write_runs-requires
write_runs-requires c = found-fits _ _ _ _ _ _ _ _ _ _ _ c.found_spans-found.ensures

pub returns : goal.returns
returns c = rw c.write_runs.ensures (spans-written _ _ _ _ _ _ _ _ _ _ _ c.found_spans-found.ensures)
