-- Where the one look is sure, the row's own step is the call's.
use mathlib.Core.Path.{sym, ◌∙◌}
use Rattle.paint.proofs.ScreenParts.{ready, step_done}
use Rattle.paint.proofs.WholeParts.{step-is-run}
use Rattle.host.proofs.HostResults.{step_roomed}
use Rattle.host.proofs.painting.coarse_paint_step.Goals as goal

pub row_step-requires-clause-ready : goal.row_step-requires-clause-ready
row_step-requires-clause-ready c =
    let q = c.sure_buckets-b.ensures c.if-b-gt64.false in
    rw c.screen_at.ensures (ready _ _ _ _ q.0)

pub returns-clause-step : goal.returns-clause-step
returns-clause-step c =
    let q = c.sure_buckets-b.ensures c.if-b-gt64.false in
    let d = rw (c.in-Some.is, c.screen_at.ensures) at c.row_step.ensures.painted in
    step_roomed _ _ _ _ _ _ _ _ _ _ _ _ q.1 (step_done _ _ _ _ _ (sym q.0) (d ∙ step-is-run _ _ _ _)) c.put_step.ensures
