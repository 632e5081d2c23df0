use Rattle.theorem_border.proofs.Finishes.{border-finishes}
use Rattle.theorem_border.proofs.painting_ends_at_border.Goals as goal

pub returns : goal.returns
returns c = border-finishes
