-- The word, the number, the line feed.
use Rattle.text.proofs.Laws.{then}
use Rattle.text_dump.specs.Rowdump.{recording-line}
use Rattle.text_dump.proofs.RecordingLinePrint.print.Goals as goal

pub returns : goal.returns
unfolding recording-line
returns c = then c.text.ensures (then c.digits.ensures c.byte.ensures)
