-- None are left, or one row's text and then those after it.
use Rattle.std.proofs.Common.{arith}
use Rattle.text_dump.proofs.Parts.{rows_none, row-few, rows_more}
use Rattle.text_dump.proofs.+rows_text.Goals as goal

pub returns-then-n-r-clause-out_after : goal.returns-then-n-r-clause-out_after
returns-then-n-r-clause-out_after t c =
    rows_none _ _ _ _ _ _ _ c.if-n-r.true

pub slice_bounds-rows_text-count : goal.slice_bounds-rows_text-count
slice_bounds-rows_text-count t c = grind (arith, row-few)

pub slice_bounds-rows_text-start : goal.slice_bounds-rows_text-start
slice_bounds-rows_text-start t c = grind (arith, row-few)

pub returns-clause-out_after : goal.returns-clause-out_after
returns-clause-out_after t c =
    rw c.unwrap_or-k.ensures
    (rows_more _ _ _ _ _ _ _ c.row_text.ensures.dumped c.if-n-r.false (rw c.unwrap_or-k.ensures at c.rows_text-more.ensures.out_after) (omega arith))

pub returns-clause-upper_bound : goal.returns-clause-upper_bound
returns-clause-upper_bound t c = grind (arith, row-few)
