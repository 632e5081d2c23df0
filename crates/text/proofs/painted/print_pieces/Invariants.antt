-- So far the lines of the first k pieces are written.
use Rattle.text.specs.Texts.{Writes}
use Rattle.text.specs.Bytes.{details-text}
use Rattle.text.specs.Pieces.{pieces-at}
use Rattle.text.proofs.painted.print_pieces.Given as goal

abbrev pub invariant-loop-k : goal.invariant-loop-k
invariant-loop-k l = Writes (details-text l.panels (pieces-at l.list l.k)) l.initial.out l.out
