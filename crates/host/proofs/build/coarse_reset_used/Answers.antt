-- The call's own equation, carried over to the words.
use Rattle.std.proofs.Common.{rules}
use Rattle.screen.specs.Tables.{Tables}
use Rattle.screen.specs.Lent.{tables_in}
use Rattle.host.proofs.Built.{used_built}
use Rattle.host.proofs.build.coarse_reset_used.Goals as goal

pub returns-clause-reset : goal.returns-clause-reset
returns-clause-reset c =
    let t : Tables = tables_in c.args.tables.now in
    let e = used_built _ _ _ _ _ _ c.in-Some.ensures c.leave.ensures.0 c.leave.ensures.1 t _ c.reset_used-done.ensures.reset in
    search (rules, e)
