-- Judged first; refused, nothing is written. Done, the rows of the box get the fill, the tables its paint and its attribute.
use Rattle.std.proofs.Common.{sym, arith}
use Rattle.std.proofs.lemmas.Result.{err_from_is_err_and}
use Rattle.sizes.proofs.Refusals.{not_done}
use Rattle.layers.proofs.FilterLaws.{refused-is, done-is}
use Rattle.layers.proofs.Doing.{nothing-needs, nothing_left}
use Rattle.layers.proofs.filter.filter_judged.Goals as goal

pub returns-in_err-judge_filter-clause-filtered : goal.returns-in_err-judge_filter-clause-filtered
returns-in_err-judge_filter-clause-filtered c =
    let p = err_from_is_err_and c.from_residual.result c.from_residual.ensures.1 in
    rw (p.1, p.2) (refused-is _ _ _ c.in_err-judge_filter.ensures.number (not_done _))

pub take_filter-requires : goal.take_filter-requires
take_filter-requires c = let k = nothing-needs _ _ _ _ _ (sym c.in_ok-judge_filter.ensures.number) in record { ids = (k.0, omega arith); attrs = (k.1, k.2) }

pub returns-in-None-clause-done : goal.returns-in-None-clause-done
returns-in-None-clause-done c =
    nothing_left _ _ _ _ _ (sym c.in_ok-judge_filter.ensures.number) _ (rw c.in-None.is at c.in_ok-judge_filter.ensures.drawn) c.take_filter.ensures

pub returns-in-None-clause-filtered : goal.returns-in-None-clause-filtered
returns-in-None-clause-filtered c = done-is _ _ _ (sym c.in_ok-judge_filter.ensures.number) (returns-in-None-clause-done c)

pub draw-requires : goal.draw-requires
draw-requires c =
    let d = rw c.in-Some.is at c.in_ok-judge_filter.ensures.drawn in
    record { number = sym c.in_ok-judge_filter.ensures.number; bounds = d.0; drawn = d.1 }

pub returns-in-Some-clause-filtered : goal.returns-in-Some-clause-filtered
returns-in-Some-clause-filtered c = done-is _ _ _ (sym c.in_ok-judge_filter.ensures.number) c.draw.ensures.drawn
