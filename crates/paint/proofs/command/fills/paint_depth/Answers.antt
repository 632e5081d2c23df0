-- The unset runs go to the front of the list, are spread to pieces, and the place moves on.
use Rattle.std.proofs.lemmas.Result.{err_from_is_err_and}
use Rattle.paint.proofs.Filling.{depth_refused, depth_ready, depth_done}
use Rattle.paint.proofs.command.fills.paint_depth.Goals as goal

pub returns-in_err-n-clause-painted : goal.returns-in_err-n-clause-painted
returns-in_err-n-clause-painted c =
    let p = err_from_is_err_and c.from_residual.result c.from_residual.ensures.1 in
    rw (p.1, p.2) (depth_refused c.args.width _ _ _ c.args.list.now _ _ _ _ _ c.args.mark.panel c.args.fill.buckets c.requires.first_bound.0 c.requires.first_bound.1
    c.requires.first_bound.3 c.requires.minima _ c.in_err-n.ensures)

pub spread-requires : goal.spread-requires
spread-requires c =
    let o = depth_ready c.args.width c.args.canvas.now.depth.now c.args.canvas.now.minima.now c.args.canvas.now.painting.now c.args.list.now _ _ _ _ c.args.fill.attrs_idx c.args.mark.panel c.args.fill.buckets
    c.requires.first_bound.0 c.requires.first_bound.1 c.requires.first_bound.3 c.requires.minima _ c.in_ok-n.ensures c.requires.first_bound.2 in
    record { room = o.0; runs = rw c.tiles.ensures o.1 }

pub returns-clause-painted : goal.returns-clause-painted
returns-clause-painted c = depth_done c.args.width _ _ c.args.canvas.now.painting.now c.args.list.now _ _ _ _ _ c.args.mark.panel c.args.fill.buckets
    c.requires.first_bound.0 c.requires.first_bound.1 c.requires.first_bound.3 c.requires.minima _ c.in_ok-n.ensures _ _ _
    c.advance.ensures (rw c.tiles.ensures at c.spread.ensures)
