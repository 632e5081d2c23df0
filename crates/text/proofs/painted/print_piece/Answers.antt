-- By the piece's tag: a line of a paint or of a layer, solid or with an alpha index.
use Rattle.text.proofs.Laws.{then}
use Rattle.text.proofs.Pieces.{piece-written}
use Rattle.text.proofs.painted.print_piece.Goals as goal

pub returns : goal.returns
returns c =
    piece-written c.args.panels c.args.list.now c.args.k c.letter.ensures c.alpha_of.ensures c.byte.ensures
    (then c.number.ensures (then c.number-2.ensures (then c.number-3.ensures (then c.alpha.ensures (then c.number-4.ensures c.print_panel.ensures)))))
    c.byte-2.ensures
