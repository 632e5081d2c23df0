-- The step on no list, its number alone.
use Rattle.std.proofs.Common.{[]}
use Rattle.std.proofs.lemmas.Result.{err_from_is_err_and}
use Rattle.sizes.specs.Refusals.{number_of}
use Rattle.paint.specs.Answers.{refused}
use Rattle.paint.specs.Painting.{words_lent}
use Rattle.paint.specs.Stepping.{attributes}
use Rattle.text.proofs.RowTexts.{stopped-at}
use Rattle.text.proofs.painted.refused_at.Goals as goal

pub returns-in_err-paint_step-clause-stopped : goal.returns-in_err-paint_step-clause-stopped
returns-in_err-paint_step-clause-stopped c =
    let p = err_from_is_err_and c.from_residual.result c.from_residual.ensures.1 in
    rw (p.1, p.2) (stopped-at _ _ (attributes _ _) (words_lent _ _ _ _ _ []) (refused (number_of c.in_err-paint_step.field-0.0)) c.in_err-paint_step.ensures.step)

pub returns-clause-stopped : goal.returns-clause-stopped
returns-clause-stopped c = stopped-at _ _ (attributes _ _) (words_lent _ _ _ _ _ []) _ c.in_ok-paint_step.ensures.step
