use Rattle.theorem_border.proofs.Border.{border-picture}
use Rattle.theorem_border.proofs.picture_at_border.Goals as goal

pub returns : goal.returns
returns c = border-picture
