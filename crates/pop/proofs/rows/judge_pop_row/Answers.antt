-- The three parts are row r.
use Rattle.row.proofs.RowsLaws.{cut_at, at-state, at-render}
use Rattle.pop.proofs.rows.judge_pop_row.Goals as goal

pub is_good_pop-requires : goal.is_good_pop-requires
is_good_pop-requires c =
    let o = c.requires in
    record {
      state = rw c.part.ensures (at-state _ _ _ _ o.whole.long o.row);
      render_cmds = rw c.part-2.ensures (at-render _ _ _ _ o.whole.long o.row);
      some = o.some;
      deep = o.deep;
    }

pub returns : goal.returns
returns c =
    let o = c.requires in
    rw (cut_at _ _ _ _ _ o.row) (rw (c.part.ensures, c.part-2.ensures, c.part-3.ensures) at c.is_good_pop.ensures)
