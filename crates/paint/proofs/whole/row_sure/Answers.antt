-- The steps that one look settles, in their place; then none is left, or the rest follows.
use Rattle.paint.proofs.WholeSure.{none-given, finished-there, rest-there}
use Rattle.paint.proofs.whole.row_sure.Goals as goal

pub returns-clause-none : goal.returns-clause-none
returns-clause-none c = none-given c.sure_part.ensures.sure

pub returns-clause-ended : goal.returns-clause-ended
returns-clause-ended c =
    let sure = c.sure_part.ensures in
    λ e. finished-there c.row_of-read.ensures _ _ c.requires.wide _ _ _ _ sure.others sure.sure e

pub returns-clause-rest : goal.returns-clause-rest
returns-clause-rest c =
    let ready = c.requires.ready in
    let sure = c.sure_part.ensures in
    rest-there c.row_of-read.ensures _ _ c.requires.wide _ _ _ _ sure.others sure.sure ready.depth ready.minima ready.painting sure.same.words-long sure.same.minima-long sure.long.0
