-- A refusal of the first step, of a later one, or the whole row with its text.
use Rattle.std.proofs.Common.{[], rules}
use Rattle.std.proofs.lemmas.Result.{err_from_is_err_and}
use Rattle.sizes.proofs.Refusals.{not_done}
use Rattle.sizes.specs.Refusals.{number_of}
use Rattle.paint.specs.Painting.{words_lent}
use Rattle.paint.specs.Answers.{refused}
use Rattle.paint.specs.Stepping.{attributes}
use Rattle.text.proofs.RowTexts.{row-refused, row-few, row-ended, row_done}
use Rattle.text.proofs.painted.row_text.Goals as goal

pub returns-in_err-done-clause-dumped : goal.returns-in_err-done-clause-dumped
returns-in_err-done-clause-dumped c =
    let p = err_from_is_err_and c.from_residual.result c.from_residual.ensures.1 in
    rw (p.1, p.2) (row-refused _ _ _ (attributes _ _) (words_lent _ _ _ _ _ _) (refused (number_of c.in_err-done.field-0.0)) c.in_err-done.ensures.painted _ (not_done _))

pub returns-then-not-done-clause-dumped : goal.returns-then-not-done-clause-dumped
returns-then-not-done-clause-dumped c =
    row-ended _ _ _ (attributes _ _) (words_lent _ _ _ _ _ _) _ c.in_ok-done.ensures.painted _ (search rules) (search rules) c.refused_at.ensures.stopped

pub write_pieces-requires : goal.write_pieces-requires
write_pieces-requires c =
    row-few c.args.panels _ _ (attributes _ _) (words_lent _ _ _ _ _ _) _ c.in_ok-done.ensures.painted []

pub returns-clause-dumped : goal.returns-clause-dumped
returns-clause-dumped c =
    row_done _ _ _ (attributes _ _) (words_lent _ _ _ _ _ _) _ c.in_ok-done.ensures.painted _ (search rules) (search rules) c.write_pieces.ensures
