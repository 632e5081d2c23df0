use Rattle.theorem_border.proofs.Border.{border-skip}
use Rattle.theorem_border.proofs.skip_at_border.Goals as goal

pub returns : goal.returns
returns c = λ f xs h hosted. border-skip hosted
