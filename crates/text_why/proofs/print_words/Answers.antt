use Rattle.text.proofs.Laws.{then}
use Rattle.text_why.proofs.print_words.Goals as goal

pub returns-in-NoSegment : goal.returns-in-NoSegment
returns-in-NoSegment c = rw c.in-NoSegment.is (then c.text-in-NoSegment.ensures c.print_panel.ensures)

pub returns-in-CutAway : goal.returns-in-CutAway
returns-in-CutAway c = rw c.in-CutAway.is (then c.text-in-CutAway.ensures c.print_panel-in-CutAway.ensures)

pub returns-in-RowUntouched : goal.returns-in-RowUntouched
returns-in-RowUntouched c = rw c.in-RowUntouched.is (then c.text-in-RowUntouched.ensures c.print_panel-in-RowUntouched.ensures)

pub returns-in-HiddenBy : goal.returns-in-HiddenBy
returns-in-HiddenBy c =
    rw c.in-HiddenBy.is (then c.text-in-HiddenBy.ensures (then c.number.ensures (then c.text-in-HiddenBy-2.ensures
    (then c.number-in-HiddenBy.ensures c.print_panel-in-HiddenBy.ensures))))

pub returns-in-ShownAt : goal.returns-in-ShownAt
returns-in-ShownAt c = rw c.in-ShownAt.is (then c.text-in-ShownAt.ensures (then c.number-in-ShownAt.ensures c.print_panel-in-ShownAt.ensures))
