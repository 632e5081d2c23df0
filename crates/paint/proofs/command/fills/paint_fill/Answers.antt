-- The shown runs go to the front of the list, are spread to pieces, and the place moves on.
use Rattle.std.proofs.lemmas.Result.{err_from_is_err_and}
use Rattle.paint.specs.Summaries.{summary-at}
use Rattle.paint.proofs.Filling.{fill_refused, fill_ready, fill_done}
use Rattle.paint.proofs.command.fills.paint_fill.Goals as goal

pub returns-in_err-n-clause-painted : goal.returns-in_err-n-clause-painted
returns-in_err-n-clause-painted c =
    let p = err_from_is_err_and c.from_residual.result c.from_residual.ensures.1 in
    rw (p.1, p.2) (fill_refused c.args.row.now.width _ _ _ c.args.list.now _ (summary-at c.args.row.now.state.now) _ _ _ c.args.mark.panel c.args.fill.span c.args.fill.alpha
    c.requires.first_bound.0 c.requires.first_bound.1 _ c.in_err-n.ensures)

pub spread-requires : goal.spread-requires
spread-requires c =
    let o = fill_ready c.args.row.now.width c.args.canvas.now.depth.now c.args.canvas.now.minima.now c.args.canvas.now.painting.now c.args.list.now _ (summary-at c.args.row.now.state.now) c.args.layer _
    c.args.fill.attrs_idx c.args.mark.panel c.args.fill.span c.args.fill.alpha c.requires.first_bound.0 c.requires.first_bound.1 _
    c.in_ok-n.ensures c.requires.first_bound.2 in
    record { room = o.0; runs = o.1 }

pub returns-clause-painted : goal.returns-clause-painted
returns-clause-painted c = fill_done c.args.row.now.width _ _ c.args.canvas.now.painting.now c.args.list.now _ (summary-at c.args.row.now.state.now) _ _ _ c.args.mark.panel c.args.fill.span
    c.args.fill.alpha c.requires.first_bound.0 c.requires.first_bound.1 _ c.in_ok-n.ensures _ _ _
    c.advance.ensures c.spread.ensures
