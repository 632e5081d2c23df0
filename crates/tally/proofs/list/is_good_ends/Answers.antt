use Rattle.std.proofs.Common.{sym, ◌∙◌}
use Rattle.tally.proofs.InList.{end-falls, end-passes, end-good, ends-done}
use Rattle.tally.proofs.list.is_good_ends.Goals as goal

pub returns-then-end-at : goal.returns-then-end-at
returns-then-end-at c = sym (end-falls _ _ _ _ c.loop-k-test.true c.if-end-at.true) ∙ c.loop-k.invariant

pub returns-then-words-end : goal.returns-then-words-end
returns-then-words-end c = sym (end-passes _ _ _ _ c.loop-k-test.true c.if-end-at.false c.if-words-end.true) ∙ c.loop-k.invariant

pub loop-k-preserved : goal.loop-k-preserved
loop-k-preserved c = sym (end-good _ _ _ _ c.loop-k-test.true c.if-end-at.false c.if-words-end.false) ∙ c.loop-k.invariant

pub returns : goal.returns
returns c = sym (ends-done _ _ _ _ c.loop-k-test.false) ∙ c.loop-k.invariant
