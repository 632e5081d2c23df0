-- Row r's parts are cut out of the slices and handed on; what the steps make of them is put back, and every other row stays.
use Rattle.paint.specs.Named.{row_lent}
use Rattle.paint.proofs.WholeParts.{run-back}
use Rattle.paint.proofs.whole.row_rest.Goals as goal

pub returns-clause-painted : goal.returns-clause-painted
returns-clause-painted c =
    let a = c.args in
    let read = c.row_of-read.ensures in
    let l = row_lent a.stored.now a.canvas.now a.list.now in
    run-back _ _ _ _ _ _ _ _ _ l _ _ _ _ (rw (read.state, read.render, read.fills, read.attrs, read.width, c.requires.wide) at c.rest_part.ensures.run)
