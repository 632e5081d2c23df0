use Rattle.text.proofs.Laws.{then, one_figure, two_figures}
use Rattle.text.proofs.Out.number.Goals as goal

pub returns-then-n-lt10 : goal.returns-then-n-lt10
returns-then-n-lt10 c = then c.byte.ensures (one_figure _ c.if-n-lt10.true c.byte-then-n-lt10.ensures)

pub returns-then-n-lt100 : goal.returns-then-n-lt100
returns-then-n-lt100 c =
    then c.byte.ensures (two_figures _ c.if-n-lt10.false c.if-n-lt100.true c.byte-then-n-lt100.ensures c.byte-then-n-lt100-2.ensures)

pub returns-else-n-lt100 : goal.returns-else-n-lt100
returns-else-n-lt100 c = then c.byte.ensures c.digits.ensures
