-- What is told of a list of fills has one result.
use Rattle.std.proofs.Common.{rules, ap}
use Rattle.fill.specs.Fills.{fill_lent}
use Rattle.fill.specs.Lists.{fills_listed}
use Rattle.theorem_once.proofs.Once.{told-once, left-once}
use Rattle.theorem_once.proofs.building.fill_list_twice.Goals as goal

pub returns : goal.returns
returns c =
    λ same.
    let k = told-once same (λ w. fills_listed w.0.3 w.0.4 w.1 w.2 w.3 (fill_lent w.0.0 w.0.1 w.0.2)) _ _ c.fill_list.ensures.filled c.fill_list-2.ensures.filled in
    let e = left-once _ _ _ _ _ _ k.1 (ap (λ w. w.0.3) same) (ap (λ w. w.0.4) same) in
    (k.0, search (rules, e))
