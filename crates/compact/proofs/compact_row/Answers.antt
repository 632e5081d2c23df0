use Rattle.std.proofs.lemmas.Result.{err_from_is_err_and}
use Rattle.row.specs.Words.{words}
use Rattle.row.specs.Rows.{all-held}
use Rattle.paint.specs.Stepping.{attributes}
use Rattle.compact.specs.Call.{stored_in}
use Rattle.compact.proofs.Call.{ready, tables, unread, forged, done}
use Rattle.compact.proofs.compact_row.Goals as goal

pub returns-in_err-judge-clause-compacted : goal.returns-in_err-judge-clause-compacted
returns-in_err-judge-clause-compacted c =
    let p = err_from_is_err_and c.from_residual.result c.from_residual.ensures.1 in
    let a = c.args in
    rw (p.1, p.2) (unread a.row (attributes a.paint_attrs.now a.layer_attrs.now) (stored_in a.screen.now a.rows.now) _ c.in_err-judge.ensures)

pub invariant_of-attrs : goal.invariant_of-attrs
invariant_of-attrs c =
    let a = c.args in
    let t = tables a.screen.now a.row (all-held a.rows.now) (attributes a.paint_attrs.now a.layer_attrs.now) c.in_ok-judge.ensures in
    record { paint_len = t.paint_len; paints_few = t.paints_few; layer_len = t.layer_len; layers_few = t.layers_few }

pub compact_part-requires : goal.compact_part-requires
compact_part-requires c =
    let a = c.args in
    ready a.screen.now a.row (all-held a.rows.now) (attributes a.paint_attrs.now a.layer_attrs.now) c.in_ok-judge.ensures

pub returns-in_err-compact_part-clause-compacted : goal.returns-in_err-compact_part-clause-compacted
returns-in_err-compact_part-clause-compacted c =
    let p = err_from_is_err_and c.from_residual-in_err-compact_part.result c.from_residual-in_err-compact_part.ensures.1 in
    let a = c.args in
    let n = c.compact_part.new in
    rw (p.1, p.2)
    (forged a.row (attributes a.paint_attrs.now a.layer_attrs.now) a.screen.now (all-held a.rows.now) (words n.state n.render_cmds n.depth_cmds) c.in_ok-judge.ensures
    _ c.in_err-compact_part.ensures.part)

pub returns-clause-compacted : goal.returns-clause-compacted
returns-clause-compacted c =
    let a = c.args in
    let n = c.compact_part.new in
    done a.row (attributes a.paint_attrs.now a.layer_attrs.now) a.screen.now (all-held a.rows.now) (words n.state n.render_cmds n.depth_cmds) c.in_ok-judge.ensures
    c.in_ok-compact_part.ensures.part
