-- What is lent is judged first, by a number that is not 0.
use Rattle.std.proofs.lemmas.Result.{err_from_is_err_and}
use Rattle.sizes.proofs.Refusals.{not_done}
use Rattle.layers.proofs.PushLaws.{lent-first, refused-is}
use Rattle.layers.proofs.push.push_layer.Goals as goal

pub returns-in_err-judge_lent-clause-pushed : goal.returns-in_err-judge_lent-clause-pushed
returns-in_err-judge_lent-clause-pushed c =
    let p = err_from_is_err_and c.from_residual.result c.from_residual.ensures.1 in
    rw (p.1, p.2) (refused-is _ _ _ (lent-first _ _ _ _ _ c.in_err-judge_lent.ensures (not_done _)) (not_done _))

pub returns-in_err-judge_lent-clause-refused : goal.returns-in_err-judge_lent-clause-refused
returns-in_err-judge_lent-clause-refused c =
    let p = err_from_is_err_and c.from_residual.result c.from_residual.ensures.1 in
    rw (p.1, p.2) (lent-first _ _ _ _ _ c.in_err-judge_lent.ensures (not_done _))
