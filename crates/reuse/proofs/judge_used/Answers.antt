-- A viewport that is bad is refused by 2.
use Rattle.std.proofs.Common.{sym, ◌∙◌}
use Rattle.reuse.proofs.Using.{used-bad-viewport}
use Rattle.reuse.proofs.judge_used.Goals as goal

pub returns-then-not-is_good_viewport : goal.returns-then-not-is_good_viewport
returns-then-not-is_good_viewport c = used-bad-viewport _ _ (sym c.is_good_viewport.ensures ∙ c.if-not-is_good_viewport.true)
