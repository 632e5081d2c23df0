-- The words are stored one after the other.
use Rattle.std.proofs.Common.{[], ◌∷◌, arith}
use Rattle.cmd.proofs.Tables.{stored}
use Rattle.paint.proofs.whole.pieces.Pieces.push.Goals as goal

pub returns-clause-list : goal.returns-clause-list
returns-clause-list c = stored _ c.args.self.now.at _ (_ ∷ _ ∷ _ ∷ _ ∷ _ ∷ _ ∷ []) (omega (arith, c.requires))
