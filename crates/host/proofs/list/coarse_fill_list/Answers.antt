-- Where the state's words stand for no screen the border answers; else the call's own equation, carried over to the words.
use Rattle.std.proofs.Common.{rules}
use Rattle.host.specs.Held.{words_in}
use Rattle.host.specs.Lent.{rows_in}
use Rattle.host.proofs.FillLists.{list_unheld, list_built}
use Rattle.host.proofs.list.coarse_fill_list.Goals as goal

pub returns-in_default-clause-filled : goal.returns-in_default-clause-filled
returns-in_default-clause-filled c =
    let d = c.args.draws.now in
    let e = list_unheld c.args.paints.now c.args.segments.now d.words.now d.start d.end (words_in c.args.state.now) (rows_in c.args.tables.now) c.args.tables.now.paint_attrs.now _ (c.in_default.ensures) c.refuse_list.ensures in
    search (rules, e)

pub returns-clause-filled : goal.returns-clause-filled
returns-clause-filled c =
    let e = list_built _ _ _ _ _ _ _ _ _ _ _ c.in-Some.ensures c.leave_list.ensures.state _ _ _ _ _ (rw c.asked.ensures at c.leave_list.ensures.told _) c.fill_list-filled.ensures.filled in
    search (rules, e)
