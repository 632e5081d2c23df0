-- The call's own equation, carried over to the words.
use Rattle.std.proofs.Common.{rules}
use Rattle.host.proofs.Compacted.{compact_built}
use Rattle.host.proofs.compacting.compact_lent.Goals as goal

pub returns-clause-compacted : goal.returns-clause-compacted
returns-clause-compacted c =
    let e = compact_built _ _ _ _ _ _ c.in-Some.ensures c.leave.ensures.0 c.leave.ensures.1 _ _ _ _ c.compact_row-done.ensures.compacted in
    search (rules, e)
