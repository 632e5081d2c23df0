use Rattle.text.proofs.DetailsLines.{no_nan, kept, plain}
use Rattle.text.proofs.details.opacity_bits.Goals as goal

pub returns-then-opacity : goal.returns-then-opacity
returns-then-opacity c = kept _ _ c.if-opacity.true

pub float_to_bits-result : goal.float_to_bits-result
float_to_bits-result c = no_nan _ c.if-opacity.false

pub returns : goal.returns
returns c = plain _ _ c.if-opacity.false
