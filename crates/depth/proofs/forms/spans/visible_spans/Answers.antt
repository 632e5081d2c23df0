-- What `visible_runs` lists in words `runs_of` gives as spans. Assumes nothing.
use Rattle.std.proofs.Common.{rules, arith}
use Rattle.std.proofs.lemmas.Result.{err_from_is_err_and}
use Rattle.depth.proofs.Laws.{seen, listed-fits, refused}
use Rattle.depth.proofs.forms.spans.visible_spans.Goals as goal

pub returns-in_err-count : goal.returns-in_err-count
returns-in_err-count c =
    let p = err_from_is_err_and c.from_residual.result c.from_residual.ensures.1 in
    rw (p.1, p.2) (refused _ _ _ _ c.in_err-count.ensures _)

pub runs_of-requires : goal.runs_of-requires
runs_of-requires c = search (rules, listed-fits)

pub returns : goal.returns
returns c =
    let e = c.in_ok-count.ensures in
    rw c.runs_of.ensures (seen _ _ _ _ e _ (omega (arith, listed-fits _ _ _ _ e)))
