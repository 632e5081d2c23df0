-- Refused, nothing changes. Done, the screen is the fresh one of its own frame, and what is used is cleared.
use Rattle.std.proofs.lemmas.Result.{err_from_is_err_and}
use Rattle.screen.specs.Lent.{whole}
use Rattle.reuse.proofs.Using.{used-judged, refused, done}
use Rattle.reuse.proofs.reset_used.Goals as goal

pub returns-in_err-judge_used-clause-reset : goal.returns-in_err-judge_used-clause-reset
returns-in_err-judge_used-clause-reset c =
    let p = err_from_is_err_and c.from_residual.result c.from_residual.ensures.1 in
    rw (p.1, p.2) (refused (whole c.args.screen.now c.args.lent.now) _ (rw c.lengths.ensures at c.in_err-judge_used.ensures))

pub clear_used-requires : goal.clear_used-requires
clear_used-requires c = record { judged = used-judged _ _ (rw c.lengths.ensures at c.in_ok-judge_used.ensures) }

pub returns-clause-reset : goal.returns-clause-reset
returns-clause-reset c =
    done (whole c.args.screen.now c.args.lent.now) (rw c.lengths.ensures at c.in_ok-judge_used.ensures) _ _ c.fresh.ensures c.clear_used.ensures.cleared
