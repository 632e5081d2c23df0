use Rattle.text.proofs.Laws.{then}
use Rattle.text.specs.Bytes.{detail-bytes}
use Rattle.text.proofs.painted.print_painted.Goals as goal

pub returns : goal.returns
unfolding detail-bytes
returns c = then (then c.text.ensures (then c.number.ensures (then c.text-2.ensures c.number-2.ensures))) c.byte.ensures
