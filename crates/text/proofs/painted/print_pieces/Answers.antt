use Rattle.text.proofs.Joins.{one_of, places-none, places-more, places-all}
use Rattle.text.specs.Bytes.{detail-bytes}
use Rattle.text.proofs.painted.print_pieces.Goals as goal

pub loop-k-init : goal.loop-k-init
loop-k-init c = places-none _ _ _

pub loop-k-preserved : goal.loop-k-preserved
loop-k-preserved c = places-more (detail-bytes _) _ _ c.loop-k.invariant (one_of (detail-bytes _) _ c.print_piece.ensures)

pub returns : goal.returns
returns c = places-all (detail-bytes _) _ _ _ c.loop-k-test.false c.loop-k.auto.k-end c.loop-k.invariant
