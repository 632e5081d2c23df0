use Rattle.std.proofs.Common.{sym, ◌∙◌}
use Rattle.screen.proofs.ScreenLaws.{few_rows}
use Rattle.screen.proofs.judge_screen.Goals as goal

pub is_good_rooms-requires : goal.is_good_rooms-requires
is_good_rooms-requires c = rw c.rows-n.ensures (few_rows _ (sym c.is_good_viewport.ensures ∙ c.if-not-is_good_viewport.false))
