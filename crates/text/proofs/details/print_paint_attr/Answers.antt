use Rattle.std.proofs.Common.{get_or-drop, add-zero}
use Rattle.text.proofs.Laws.{then}
use Rattle.text.specs.Bytes.{detail-bytes}
use Rattle.text.specs.Tables.{paint-attr-at}
use Rattle.text.proofs.details.print_paint_attr.Goals as goal

pub returns : goal.returns
unfolding detail-bytes paint-attr-at
returns c =
    simp (get_or-drop, add-zero)
    (then (then c.byte.ensures (then c.number.ensures (then c.number-2.ensures (then c.number-3.ensures (then c.number-4.ensures (then c.number-5.ensures
    (then c.number-6.ensures (then c.number-7.ensures (then c.number-8.ensures c.print_panel.ensures))))))))) c.byte-2.ensures)
