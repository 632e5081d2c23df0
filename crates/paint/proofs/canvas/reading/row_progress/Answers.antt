-- Row r's two words are cut out and read.
use Rattle.std.proofs.Common.{arith}
use Rattle.std.proofs.lemmas.Result.{err_from_is_err_and}
use Rattle.paint.proofs.ScreenParts.{part_length}
use Rattle.paint.proofs.StoredCmds.{painting_within, progress_refused, progress_done}
use Rattle.paint.proofs.canvas.reading.row_progress.Goals as goal

pub returns-in_err-judge_painting : goal.returns-in_err-judge_painting
returns-in_err-judge_painting c =
    let p = err_from_is_err_and c.from_residual.result c.from_residual.ensures.1 in
    rw (p.1, p.2) (progress_refused _ _ _ _ c.in_err-judge_painting.ensures)

pub part-words-requires : goal.part-words-requires
part-words-requires c = (painting_within _ _ _ c.in_ok-judge_painting.ensures).ends

pub bounds-words-0 : goal.bounds-words-0
bounds-words-0 c = let l = part_length 2 _ _ (painting_within _ _ _ c.in_ok-judge_painting.ensures) in rw c.part-words.ensures (omega (arith, l))

pub bounds-words-1 : goal.bounds-words-1
bounds-words-1 c = let l = part_length 2 _ _ (painting_within _ _ _ c.in_ok-judge_painting.ensures) in rw c.part-words.ensures (omega (arith, l))

pub returns : goal.returns
returns c = rw c.part-words.ensures (progress_done _ _ _ c.in_ok-judge_painting.ensures)
