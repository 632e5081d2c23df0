use Rattle.std.proofs.Common.{arith}
use Rattle.std.proofs.lemmas.Result.{err_from_is_err_and}
use Rattle.screen.specs.Depths.{depths_in}
use Rattle.paint.specs.Stepping.{Within}
use Rattle.paint.proofs.ScreenParts.{write_within}
use Rattle.paint.proofs.ScreenRuns.{write_refused, write_kept, write_done}
use Rattle.paint.proofs.canvas.rows.unset_runs_and_write.Goals as goal
use Rattle.paint.proofs.canvas.rows.unset_runs_and_write.Goals.{After-buckets-b, After-minima_room-m}

-- the row's parts lie within the depth words and the minima
there : (c : After-buckets-b) → Within c.buckets-b.result c.args.row c.args.depth.now.words.now
there c = rw c.buckets-b.ensures (write_within c.args.screen.now c.args.row _ _ c.in_ok-judge_write.ensures).0

over : (c : After-minima_room-m) → Within c.minima_room-m.result c.args.row c.args.depth.now.minima.now
over c = rw (c.minima_room-m.ensures, c.buckets-b.ensures) (write_within c.args.screen.now c.args.row _ _ c.in_ok-judge_write.ensures).1

pub returns-in_err-judge_write-clause-wrote : goal.returns-in_err-judge_write-clause-wrote
returns-in_err-judge_write-clause-wrote c =
    let p = err_from_is_err_and c.from_residual.result c.from_residual.ensures.1 in
    rw (p.1, p.2) (write_refused _ _ (depths_in c.args.depth.now) _ _ _ _ c.in_err-judge_write.ensures)

pub minima_room-m-requires : goal.minima_room-m-requires
minima_room-m-requires c = omega (arith, (there (goal.at.minima_room-m-requires c).After-buckets-b).short)

pub overflow_mul-at : goal.overflow_mul-at
overflow_mul-at c = omega (arith, (there (goal.at.overflow_mul-at c).After-buckets-b).near)

pub overflow_mul-over : goal.overflow_mul-over
overflow_mul-over c = omega (arith, (over (goal.at.overflow_mul-over c).After-minima_room-m).near)

pub overflow_add-at : goal.overflow_add-at
overflow_add-at c = let w = there (goal.at.overflow_add-at c).After-buckets-b in omega (arith, w.near, w.short)

pub offset_bounds-depth-at : goal.offset_bounds-depth-at
offset_bounds-depth-at c = omega (arith, (there (goal.at.offset_bounds-depth-at c).After-buckets-b).near)

pub slice_bounds-write_part-end : goal.slice_bounds-write_part-end
slice_bounds-write_part-end c = omega (arith, (there (goal.at.slice_bounds-write_part-end c).After-buckets-b).ends)

pub overflow_add-over : goal.overflow_add-over
overflow_add-over c = let w = over (goal.at.overflow_add-over c).After-minima_room-m in omega (arith, w.near, w.short)

pub offset_bounds-depth-over : goal.offset_bounds-depth-over
offset_bounds-depth-over c = omega (arith, (over (goal.at.offset_bounds-depth-over c).After-minima_room-m).near)

pub slice_bounds-write_part-end-2 : goal.slice_bounds-write_part-end-2
slice_bounds-write_part-end-2 c = omega (arith, (over (goal.at.slice_bounds-write_part-end-2 c).After-minima_room-m).ends)

pub returns-in_err-n-clause-wrote : goal.returns-in_err-n-clause-wrote
returns-in_err-n-clause-wrote c =
    let p = err_from_is_err_and c.from_residual-in_err-n.result c.from_residual-in_err-n.ensures.1 in
    rw (p.1, p.2)
    (write_kept c.args.screen.now c.args.row (depths_in c.args.depth.now) _ _ c.args.list.now c.in_ok-judge_write.ensures _ c.buckets-b.ensures _
    c.minima_room-m.ensures _ _ _ _ c.in_err-n.ensures)

pub returns-clause-wrote : goal.returns-clause-wrote
returns-clause-wrote c =
    write_done c.args.screen.now c.args.row (depths_in c.args.depth.now) _ _ c.args.list.now c.in_ok-judge_write.ensures _ c.buckets-b.ensures _
    c.minima_room-m.ensures _ _ _ _ c.in_ok-n.ensures
