-- The steps that one look settles; then none is left, or the rest follows.
use Rattle.std.proofs.Common.{◌∙◌}
use Rattle.paint.proofs.whole.row_part.Goals as goal

pub returns-then-went-clause-painted : goal.returns-then-went-clause-painted
returns-then-went-clause-painted c = c.row_sure-went.ensures.ended c.if-went.true

pub returns-clause-painted : goal.returns-clause-painted
returns-clause-painted c = c.row_rest.ensures.painted ∙ c.row_sure-went.ensures.rest
