-- The attributes' text stands first, the rows' after it.
use Rattle.std.proofs.Common.{arith}
use Rattle.text_dump.proofs.Parts.{attrs-few, screen-more}
use Rattle.text_dump.proofs.screen_text.Goals as goal

pub slice_bounds-painted_text-count : goal.slice_bounds-painted_text-count
slice_bounds-painted_text-count c = grind (arith, attrs-few)

pub slice_bounds-painted_text-start : goal.slice_bounds-painted_text-start
slice_bounds-painted_text-start c = grind (arith, attrs-few)

pub returns-clause-out_after : goal.returns-clause-out_after
returns-clause-out_after c =
    rw c.unwrap_or-k.ensures (screen-more _ _ _ _ _ c.heads_text.ensures _ (rw c.unwrap_or-k.ensures at c.painted_text-more.ensures.out_after) (omega arith))

pub returns-clause-upper_bound : goal.returns-clause-upper_bound
returns-clause-upper_bound c = grind (arith, attrs-few)
