-- Judged first; refused, nothing is written. Done, the rows of the layer's box get their buffers, where it needs one; the table gets the layer;
-- the clip box narrows.
use Rattle.std.proofs.Common.{sym, ap, ◌∙◌, arith}
use Rattle.std.proofs.lemmas.Result.{err_from_is_err_and}
use Rattle.sizes.proofs.Refusals.{not_done}
use Rattle.layers.proofs.PushLaws.{ready, rows_is, after_is, refused-is, done-is}
use Rattle.sizes.specs.Widths.{bucket-tiles}
use Rattle.row.specs.Arena.{lay}
use Rattle.layers.proofs.RowsLaws.{touch-on, touch-each}
use Rattle.layers.proofs.push.push_judged.Goals as goal

pub returns-in_err-bbox-clause-pushed : goal.returns-in_err-bbox-clause-pushed
returns-in_err-bbox-clause-pushed c =
    let p = err_from_is_err_and c.from_residual.result c.from_residual.ensures.1 in
    rw (p.1, p.2) (refused-is _ _ _ c.in_err-bbox.ensures.number (not_done _))

pub put-requires : goal.put-requires
put-requires c =
    let r = ready _ _ _ _ _ (sym c.in_ok-bbox.ensures.number) in
    record { level = r.free; long = r.layers; opacities_long = r.opacities }

pub overflow_add-touch : goal.overflow_add-touch
overflow_add-touch c = omega (arith, (ready _ _ _ _ _ (sym c.in_ok-bbox.ensures.number)).free)

pub on_rows-requires : goal.on_rows-requires
on_rows-requires c =
    let r = ready _ _ _ _ _ (sym c.in_ok-bbox.ensures.number) in
    record {
      asks = λ w. omega (arith, r.free);
      rows = touch-on _ (bucket-tiles c.args.screen.now.width) _ (rw (rows_is c.args.props _ _ r.zero _ c.in_ok-bbox.ensures.opening.bbox _ c.in_ok-bbox.ensures.opening.band) r.on);
    }

pub open_layer-requires : goal.open_layer-requires
open_layer-requires c = omega (arith, (ready _ _ _ _ _ (sym c.in_ok-bbox.ensures.number)).free)

pub returns-clause-done : goal.returns-clause-done
returns-clause-done c =
    let o = c.in_ok-bbox.ensures in
    rw (c.put.ensures.table, c.put.ensures.opacities)
    (after_is _ _ _ _ _ (ready _ _ _ _ _ (sym o.number)) _ o.opening.bbox _ _ _ c.open_layer.ensures o.opening.band
    (c.on_rows.ensures.rows ∙ ap lay (touch-each (bucket-tiles c.args.screen.now.width) _ _ _)))

pub returns-clause-pushed : goal.returns-clause-pushed
returns-clause-pushed c = done-is _ _ _ (sym c.in_ok-bbox.ensures.number) (returns-clause-done c)
