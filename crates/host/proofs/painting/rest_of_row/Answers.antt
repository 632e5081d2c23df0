-- What is left beside the canvas and the list.
use Rattle.host.proofs.HostResults.{left_beside}
use Rattle.host.proofs.painting.rest_of_row.Goals as goal

pub returns-clause-rest : goal.returns-clause-rest
returns-clause-rest c = left_beside _ _ _ _ _ _ _ _ (rw c.screen_at.ensures at c.row_rest-done.ensures.painted) c.put_step.ensures
