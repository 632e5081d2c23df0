use Rattle.theorem_picture.proofs.Used.{used-resets}
use Rattle.theorem_picture.proofs.used_screens_are_reset.Goals as goal

pub returns : goal.returns
returns c = used-resets
