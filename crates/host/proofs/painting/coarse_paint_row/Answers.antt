-- Where the one look is sure, the row's own steps are the call's.
use mathlib.Core.Path.{refl, sym}
use native.Mathlib.Omega.{arith}
use Rattle.std.proofs.Common.{rules}
use Rattle.std.proofs.lemmas.Bool.{not-false}
use Rattle.paint.proofs.ScreenParts.{ready}
use Rattle.paint.proofs.WholeParts.{row_done}
use Rattle.paint.specs.Running.{finished_with}
use Rattle.host.specs.Called.{canvas_out}
use Rattle.host.specs.Held.{painted_in}
use Rattle.host.proofs.HostResults.{left_beside, row_left}
use Rattle.host.proofs.painting.coarse_paint_row.Goals as goal

pub row_sure-went-requires : goal.row_sure-went-requires
row_sure-went-requires c =
    let q = c.sure_buckets-b.ensures c.if-b-gt64.false in
    rw c.screen_at.ensures (record { limit = omega arith; wide = q.2; ready = ready _ _ _ _ q.0 })

pub returns-then-not-went-clause-row : goal.returns-then-not-went-clause-row
returns-then-not-went-clause-row c =
    let q = c.sure_buckets-b.ensures c.if-b-gt64.false in
    let d = rw c.screen_at.ensures at c.row_sure-went.ensures.rest in
    let e = row_left _ _ _ _ _ _ _ _ _ q.1 (row_done _ _ _ _ _ (sym q.0) d) c.rest_of_row.ensures.rest in
    search (rules, e)

pub returns-clause-row : goal.returns-clause-row
returns-clause-row c =
    let q = c.sure_buckets-b.ensures c.if-b-gt64.false in
    let d = rw c.screen_at.ensures at c.row_sure-went.ensures.ended (not-false _ c.if-not-went.false) in
    row_left _ _ _ _ _ _ _ (canvas_out c.row_sure-went.new.canvas c.row_sure-went.new.list c.put_step.new.painted) (painted_in c.args.painted.now) q.1 (row_done _ _ _ _ _ (sym q.0) d)
    (left_beside _ (finished_with c.row_sure-went.result.pieces) _ _ _ (painted_in c.args.painted.now) _ _ refl c.put_step.ensures)
