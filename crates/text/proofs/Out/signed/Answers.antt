use Rattle.text.proofs.Laws.{then, minus, blank, read_back}
use Rattle.text.proofs.Out.signed.Goals.{then-x-lt0, else-x-lt0}
use Rattle.text.proofs.Out.signed.Goals as goal

pub returns : goal.returns
returns c =
    let s = read_back c.ranges.x in
    elim c.if-x-lt0.branch [
      | then-x-lt0 w ↦ then (minus _ (rw s at w.if-x-lt0.true) w.dash.ensures) (rw (w.self-is, c.unsigned_abs.ensures.value, s) at c.digits.ensures)
      | else-x-lt0 w ↦ then (blank _ (rw s at w.if-x-lt0.false) w.byte.ensures) (rw (w.self-is, c.unsigned_abs.ensures.value, s) at c.digits.ensures)
    ]
