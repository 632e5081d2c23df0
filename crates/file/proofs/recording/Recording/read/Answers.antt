use Rattle.std.proofs.lemmas.Result.{err_from_is_err_and}
use Rattle.file.proofs.Laid.{good-form, bad-form}
use Rattle.file.proofs.Reading.{reads}
use Rattle.file.proofs.recording.Recording.read.Goals as goal

pub returns-in_err-layout : goal.returns-in_err-layout
returns-in_err-layout c =
    let p = err_from_is_err_and c.from_residual.result c.from_residual.ensures.1 in
    let b = bad-form c.args.file.edition c.args.file.words.now c.in_err-layout.ensures in
    rw (p.1, p.2) b

pub returns : goal.returns
returns c =
    let g = good-form c.args.file.edition c.args.file.words.now c.in_ok-layout.layout c.in_ok-layout.ensures in
    (g.fits, rw (g.same, reads _ _ g.fits))
