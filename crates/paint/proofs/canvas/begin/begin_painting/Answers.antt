-- Judged 0, the words of depth have their lengths.
use Rattle.std.proofs.Common.{sym}
use Rattle.paint.proofs.Judged.{begin-lent}
use Rattle.paint.proofs.canvas.begin.begin_painting.Goals as goal

pub blank_depth-requires-clause-few : goal.blank_depth-requires-clause-few
blank_depth-requires-clause-few c =
    let lent = begin-lent _ _ _ _ (sym c.in_ok-judge_begin.ensures) in rw (c.rows.ensures, c.buckets.ensures) (lent.0, lent.1)

pub blank_depth-requires-clause-words : goal.blank_depth-requires-clause-words
blank_depth-requires-clause-words c =
    let lent = begin-lent _ _ _ _ (sym c.in_ok-judge_begin.ensures) in rw (c.rows.ensures, c.buckets.ensures) lent.2

pub blank_depth-requires-clause-minima : goal.blank_depth-requires-clause-minima
blank_depth-requires-clause-minima c =
    let lent = begin-lent _ _ _ _ (sym c.in_ok-judge_begin.ensures) in rw (c.rows.ensures, c.buckets.ensures) lent.3
