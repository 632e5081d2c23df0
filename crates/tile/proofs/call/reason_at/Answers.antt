-- The story is told from the recording's own viewport into blank lines; where it is told to its end, its lines give the reason.
use Rattle.std.proofs.lemmas.Result.{err_from_is_err_and}
use Rattle.sizes.proofs.Refusals.{not_done}
use Rattle.tile.proofs.Explaining.{story-refused, story-told}
use Rattle.tile.proofs.call.reason_at.Goals as goal

pub returns-in_err-tale : goal.returns-in_err-tale
returns-in_err-tale c =
    let p = err_from_is_err_and c.from_residual.result c.from_residual.ensures.1 in
    rw (p.1, p.2) (λ l. story-refused _ _ _ _ _ _ l _ c.in_err-tale.ensures (not_done _))

pub returns : goal.returns
returns c = λ l. story-told _ _ _ _ _ _ l _ c.in_ok-tale.ensures.0 _ c.reason_of.ensures
