-- The header, then the rows; a judged screen's numbers are small.
use Rattle.std.proofs.Common.{arith}
use Rattle.text.specs.Printed.{screen_words}
use Rattle.text.proofs.Judging.{listable, row-ready}
use Rattle.text.proofs.Runs.{joined-none, joined-more, screen-written}
use Rattle.text.proofs.listing.ScreenTextPrint.print.Goals as goal

pub overflow_cast-buckets : goal.overflow_cast-buckets
overflow_cast-buckets c = let o = listable _ (screen_words c.args.self.now) c.requires in record { fits = omega (arith, o.few-buckets, c.buckets-buckets.ensures) }

pub overflow_cast-rows : goal.overflow_cast-rows
overflow_cast-rows c = let o = listable _ (screen_words c.args.self.now) c.requires in record { fits = omega (arith, o.whole.rows, c.rows-rows.ensures) }

pub overflow_sub-screen : goal.overflow_sub-screen
overflow_sub-screen c = (listable _ (screen_words c.args.self.now) c.requires).some_id

pub loop-r-init : goal.loop-r-init
loop-r-init c = joined-none _ _

pub row-requires : goal.row-requires
row-requires c =
    let o = listable _ (screen_words c.args.self.now) c.requires in
    record { arenas = o.whole; within = omega (arith, c.rows-rows.ensures) }

pub print-requires-in-loop-r : goal.print-requires-in-loop-r
print-requires-in-loop-r c =
    let o = listable _ (screen_words c.args.self.now) c.requires in
    rw c.row.ensures.words (row-ready o.whole _ (omega (arith, c.rows-rows.ensures)) (o.few _ (omega (arith, c.rows-rows.ensures))))

pub loop-r-preserved : goal.loop-r-preserved
loop-r-preserved c =
    joined-more _ _ c.loop-r.invariant (rw (c.row.ensures.row, c.row.ensures.buckets, c.row.ensures.words) at c.print-in-loop-r.ensures)

pub returns : goal.returns
returns c =
    screen-written _ (screen_words c.args.self.now) _ _ _ c.rows-rows.ensures c.buckets-buckets.ensures c.loop-r-test.false c.loop-r.auto.r-end
    c.print.ensures c.loop-r.invariant
