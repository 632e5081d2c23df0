-- The first of the words, two for each run that there is room for, are lent to `coarse_visible_runs`; where that answers 0, the results are one word, which says
-- how many runs there are.
use Rattle.host.proofs.Listed.{found_none, found_some}
use Rattle.host.proofs.spans.found_spans.Goals as goal

pub returns-then-number-ne0 : goal.returns-then-number-ne0
returns-then-number-ne0 c = found_none _ _ _ _ _ _ _ _ _ _ _ c.words_for-n.ensures c.coarse_visible_runs-number.ensures c.if-number-ne0.true

pub returns : goal.returns
returns c = found_some _ _ _ _ _ _ _ _ _ _ _ c.words_for-n.ensures c.coarse_visible_runs-number.ensures c.if-number-ne0.false
