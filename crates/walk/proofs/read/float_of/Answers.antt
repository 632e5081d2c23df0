use Rattle.std.proofs.Common.{sym, ◌∙◌}
use Rattle.walk.proofs.Opacity.{zero_by_zero, by_division}
use Rattle.walk.proofs.read.float_of.Goals as goal

pub returns-then-is_nan_bits : goal.returns-then-is_nan_bits
returns-then-is_nan_bits c = zero_by_zero ∙ by_division _ (sym c.is_nan_bits.ensures ∙ c.if-is_nan_bits.true)
