use Rattle.text.proofs.FileTexts.{refused_as}
use Rattle.text.proofs.recording.refuse.Goals as goal

pub returns : goal.returns
returns c = rw c.unwrap_or.ensures (refused_as _ _ _ (rw c.number.ensures at c.refusal_line.ensures))
