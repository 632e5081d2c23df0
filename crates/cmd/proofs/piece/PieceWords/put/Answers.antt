-- The words are stored one after the other.
use Rattle.std.proofs.Common.{[], ◌∷◌, ◌*◌, arith}
use Rattle.sizes.specs.Sizes.{piece-size}
use Rattle.cmd.proofs.Tables.{stored}
use Rattle.cmd.proofs.piece.PieceWords.put.Goals as goal

pub returns : goal.returns
returns c = stored _ (piece-size * c.args.k) _ (_ ∷ _ ∷ _ ∷ _ ∷ _ ∷ _ ∷ []) (omega arith)
