use Rattle.text.proofs.Laws.{then}
use Rattle.text.proofs.Out.command.Goals as goal

pub returns-in-PaintFill : goal.returns-in-PaintFill
returns-in-PaintFill c = rw c.in-PaintFill.is (then c.byte.ensures c.fill.ensures)

pub returns-in-LayerFill : goal.returns-in-LayerFill
returns-in-LayerFill c = rw c.in-LayerFill.is (then c.byte-in-LayerFill.ensures c.fill-in-LayerFill.ensures)

pub returns-in-PushBuf : goal.returns-in-PushBuf
returns-in-PushBuf c = rw c.in-PushBuf.is (then c.byte-in-PushBuf.ensures c.recorded.ensures)
