-- 3 for the bytes; else what their words become.
use Rattle.std.proofs.Common.{arith}
use Rattle.std.proofs.lemmas.Result.{err_from_is_err_and}
use Rattle.rect.specs.Rects.{mode_of}
use Rattle.run_editions.specs.Conversions.{source, target}
use Rattle.run_editions.proofs.Long.{bad-bytes, good-bytes}
use Rattle.run_editions.proofs.conversion.convert_bytes.Goals as goal

pub returns-in_err-n-clause-value : goal.returns-in_err-n-clause-value
returns-in_err-n-clause-value c =
    let j = c.args.job in
    let p = err_from_is_err_and c.from_residual.result c.from_residual.ensures.1 in
    rw (p.1, p.2, c.in_err-n.ensures.value.0) (bad-bytes (mode_of j.mode) (source j.way) (target j.way) c.args.file.now c.in_err-n.ensures.value.1)

pub returns-clause-value : goal.returns-clause-value
returns-clause-value c =
    let j = c.args.job in
    good-bytes (mode_of j.mode) (source j.way) (target j.way) c.args.file.now _ c.in_ok-n.ensures.value _ _ _ _ (omega arith) c.convert_words.ensures
