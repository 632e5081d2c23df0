use Rattle.text.specs.Bytes.{detail-bytes}
use Rattle.text.specs.Pieces.{row-lines}
use Rattle.text.proofs.Laws.{then}
use Rattle.text.proofs.painted.PiecesTextPrint.print.Goals as goal

pub returns : goal.returns
unfolding row-lines detail-bytes
returns c = then c.print_painted.ensures c.print_pieces.ensures
