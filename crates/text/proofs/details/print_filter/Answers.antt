use Rattle.std.proofs.Common.{rules}
use Rattle.text.proofs.DetailsLines.{filter-written}
use Rattle.text.proofs.details.print_filter.Goals as goal

pub returns : goal.returns
returns c =
    filter-written c.args.table.now c.args.i (search rules) (search rules) (search rules) (search rules) c.unsigned_abs.ensures.value
    c.unsigned_abs-2.ensures.value c.byte.ensures c.number.ensures c.number-2.ensures c.signed.ensures c.signed-2.ensures c.byte-2.ensures
