-- The call is judged as a whole; refused, nothing is written. Done, the rows get what the rules' puts are, and the table the draw's attribute.
use Rattle.std.proofs.Common.{sym, arith}
use Rattle.screen.proofs.ScreenLaws.{bounds}
use Rattle.fill.proofs.Numbers.{right-lengths, passing}
use Rattle.fill.proofs.Done.{zero-says, room-for-attr, done-is, done-empty, done-some, rows-asked, splits}
use Rattle.fill.proofs.fill_one.Goals as goal

pub take_fill-requires : goal.take_fill-requires
take_fill-requires g c =
    let z = zero-says _ _ _ _ (sym c.in_ok-job.ensures.number) in
    record { ids = z.ids; attrs = ((bounds c.args.screen.now (passing _ _ _ c.args.draw z.first).screen).paints, omega arith) }

pub returns-then-draw-clause-done : goal.returns-then-draw-clause-done
returns-then-draw-clause-done g c = done-empty _ _ _ _ (zero-says _ _ _ _ (sym c.in_ok-job.ensures.number)) c.if-draw.true c.take_fill.ensures

pub returns-then-draw-clause-filled : goal.returns-then-draw-clause-filled
returns-then-draw-clause-filled g c =
    done-is _ _ _ _ c.in_ok-job.ensures.number (done-empty _ _ _ _ (zero-says _ _ _ _ (sym c.in_ok-job.ensures.number)) c.if-draw.true c.take_fill.ensures)

pub put_paint_attrs-requires : goal.put_paint_attrs-requires
put_paint_attrs-requires g c =
    let z = zero-says _ _ _ _ (sym c.in_ok-job.ensures.number) in
    (room-for-attr _ _ _ _ z c.if-draw.false, (right-lengths _ _ _ z.first).1)

pub fill_rows-requires : goal.fill_rows-requires
fill_rows-requires g c =
    let z = zero-says _ _ _ _ (sym c.in_ok-job.ensures.number) in
    record { split = splits c.args.screen.now c.args.paints.now c.args.draw _ c.in_ok-job.ensures.job; ready = rows-asked _ _ _ _ z c.if-draw.false c.in_ok-job.ensures.job }

pub take_fill-requires-2 : goal.take_fill-requires-2
take_fill-requires-2 g c =
    let z = zero-says _ _ _ _ (sym c.in_ok-job.ensures.number) in
    record { ids = z.ids; attrs = ((bounds c.args.screen.now (passing _ _ _ c.args.draw z.first).screen).paints, omega arith) }

pub returns-clause-done : goal.returns-clause-done
returns-clause-done g c =
    done-some _ _ _ _ (zero-says _ _ _ _ (sym c.in_ok-job.ensures.number)) c.if-draw.false c.take_fill-2.ensures c.in_ok-job.ensures.job c.fill_rows.ensures.rows (rw c.attrs_of-attrs.ensures at c.put_paint_attrs.ensures)

pub returns-clause-filled : goal.returns-clause-filled
returns-clause-filled g c =
    done-is _ _ _ _ c.in_ok-job.ensures.number
    (done-some _ _ _ _ (zero-says _ _ _ _ (sym c.in_ok-job.ensures.number)) c.if-draw.false c.take_fill-2.ensures c.in_ok-job.ensures.job c.fill_rows.ensures.rows (rw c.attrs_of-attrs.ensures at c.put_paint_attrs.ensures))
