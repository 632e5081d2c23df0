use Rattle.std.proofs.Common.{rules}
use Rattle.screen.specs.Lent.{whole}
use Rattle.walk.proofs.Calls.{push_step}
use Rattle.walk.proofs.steps.push_at.Goals as goal

pub returns-clause-pushed : goal.returns-clause-pushed
returns-clause-pushed c = λ p q.
    let e = push_step (whole c.args.screen.now c.args.lent.now) _ p _ (rw q at c.push_layer.ensures.pushed) in
    search (rules, e)
