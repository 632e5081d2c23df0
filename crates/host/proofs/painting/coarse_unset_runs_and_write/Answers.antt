-- The call's own equation, carried over to the words.
use Rattle.host.proofs.HostResults.{write_roomed}
use Rattle.host.proofs.painting.coarse_unset_runs_and_write.Goals as goal

pub returns-clause-written : goal.returns-clause-written
returns-clause-written c =
    write_roomed _ _ _ _ _ _ c.unset_runs_and_write-runs.result _ _ _ _ _ _ _ _ c.in-Some.ensures c.unset_runs_and_write-runs.ensures.wrote
    c.put_screen.ensures c.put_runs.ensures
