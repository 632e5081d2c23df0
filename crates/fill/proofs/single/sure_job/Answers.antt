-- The tests of the judge, one by one: none refuses.
use Rattle.std.proofs.Common.{sym, arith, refl}
use Rattle.row.specs.Rows.{all-held}
use Rattle.fill.specs.Fills.{fill_lent}
use Rattle.fill.proofs.Inputs.{draw-facts, fill-told}
use Rattle.fill.proofs.Numbers.{passing, list-asked, list-rows}
use Rattle.fill.proofs.single.sure_job.Goals as goal

pub job_of-job-requires : goal.job_of-job-requires
job_of-job-requires c =
    let p = passing _ _ _ c.args.draw c.requires.judged in
    record { viewport = p.view; numbers = p.screen; paint = (draw-facts c.args.paints.now c.args.segments.now c.args.draw (fill-told c.args.paints.now c.args.segments.now c.args.draw c.is_good_fill.ensures c.if-not-is_good_fill.false)).paint }

pub is_sure-requires : goal.is_sure-requires
is_sure-requires c =
    let l = fill_lent c.args.screen (all-held c.args.rows.now) c.args.paint_attrs.now in
    let asked = list-asked l c.args.paints.now c.args.segments.now c.args.draw c.requires.judged (fill-told c.args.paints.now c.args.segments.now c.args.draw c.is_good_fill.ensures c.if-not-is_good_fill.false) in
    rw c.job_of-job.ensures (record { rows = asked.0; list = omega (arith, asked.2, c.requires.one) })

pub returns : goal.returns
returns c =
    let z = rw (c.job_of-job.ensures, c.requires.one) at c.is_sure.ensures c.if-not-is_sure.false in (
      c.job_of-job.ensures,
      sym (list-rows _ _ _ _ c.requires.judged (fill-told c.args.paints.now c.args.segments.now c.args.draw c.is_good_fill.ensures c.if-not-is_good_fill.false) (sym z) refl
          c.if-screen-gt-LAST_ID.false (λ e. omega (arith, c.requires.one, e)) c.if-screen-ge-MOST_ATTRS.false),
    )
