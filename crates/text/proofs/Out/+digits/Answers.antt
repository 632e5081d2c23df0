-- By the number of digits: none, the last alone, or those before it and then it.
use Rattle.text.proofs.Laws.{no-digits, one-digit, more-digits}
use Rattle.text.proofs.Out.+digits.Goals.{then-n-ge10, else-n-ge10}
use Rattle.text.proofs.Out.+digits.Goals as goal

pub returns-then-k-eq0 : goal.returns-then-k-eq0
returns-then-k-eq0 t c = no-digits _ _ _ c.if-k-eq0.true

pub returns : goal.returns
returns t c = elim c.if-n-ge10.branch [
  | then-n-ge10 w ↦ more-digits _ _ c.if-k-eq0.false w.if-n-ge10.true w.digits.ensures (rw w.self-is at c.byte.ensures)
  | else-n-ge10 w ↦ one-digit _ _ c.if-k-eq0.false w.if-n-ge10.false (rw w.self-is at c.byte.ensures)
]
