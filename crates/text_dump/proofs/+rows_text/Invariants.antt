use Rattle.std.proofs.Common.{◌-◌}
use Rattle.text_dump.proofs.+rows_text.Given as goal

abbrev pub decreases-rows_text : goal.decreases-rows_text
decreases-rows_text l = l.n - l.r
