-- Where the one look is sure, a filter fill of what is lent well is the call's.
use Rattle.std.proofs.Common.{rules}
use Rattle.host.proofs.Built.{filter_built}
use Rattle.host.proofs.Left.{filter-leaves}
use Rattle.host.proofs.layer.coarse_filter_fill.Goals as goal

pub filter_judged-done-requires : goal.filter_judged-done-requires
filter_judged-done-requires c =
    let q = c.is_filter_sure.ensures c.if-not-is_filter_sure.false in rw c.screen_at-screen.ensures q.0

pub leave_filter-requires : goal.leave_filter-requires
leave_filter-requires c =
    let q = c.is_filter_sure.ensures c.if-not-is_filter_sure.false in
    filter-leaves _ _ q.1 _ (rw c.screen_at-screen.ensures at c.filter_judged-done.ensures.left)

pub returns-clause-filtered : goal.returns-clause-filtered
returns-clause-filtered c =
    let q = c.is_filter_sure.ensures c.if-not-is_filter_sure.false in
    let d = rw c.screen_at-screen.ensures at c.filter_judged-done.ensures.filtered in
    let e = filter_built _ _ _ _ _ _ _ q.1 c.leave_filter.ensures.0 c.leave_filter.ensures.1 _ _ _ _ _ _ _ d in
    let p = c.given-layer.ensures in
    search (rules, e, p)
