-- The record is good, and the sums stay within C and D.
use Rattle.std.proofs.Common.{sym, ◌∙◌, leb-true}
use Rattle.fill.proofs.Sure.{room-found}
use Rattle.fill.proofs.judge.has_room.Goals as goal

pub returns-then-state-split : goal.returns-then-state-split
returns-then-state-split c = λ e. room-found _ _ _ _ (sym c.is_good_row.ensures ∙ c.if-not-is_good_row.false) c.if-state-split.true (leb-true _ _ e)
