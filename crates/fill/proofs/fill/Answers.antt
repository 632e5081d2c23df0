-- What the judge of the screen and of all lengths refuses is refused.
use Rattle.std.proofs.lemmas.Result.{err_from_is_err_and}
use Rattle.sizes.proofs.Refusals.{not_done}
use Rattle.fill.proofs.Numbers.{by_first}
use Rattle.fill.proofs.Done.{refused-is}
use Rattle.fill.proofs.fill.Goals as goal

pub returns-in_err-judge_lent-clause-refused : goal.returns-in_err-judge_lent-clause-refused
returns-in_err-judge_lent-clause-refused c =
    let p = err_from_is_err_and c.from_residual.result c.from_residual.ensures.1 in
    rw (p.1, p.2) (by_first _ _ _ _ c.in_err-judge_lent.ensures (not_done _))

pub returns-in_err-judge_lent-clause-filled : goal.returns-in_err-judge_lent-clause-filled
returns-in_err-judge_lent-clause-filled c =
    let p = err_from_is_err_and c.from_residual.result c.from_residual.ensures.1 in
    rw (p.1, p.2) (refused-is _ _ _ _ (by_first _ _ _ _ c.in_err-judge_lent.ensures (not_done _)) (not_done _))
