use Rattle.std.proofs.Common.{sym, ◌∙◌, ap, ◌-◌, le_refl, arith, Some}
use Rattle.paint.specs.Reading.{attrs_of}
use Rattle.compact.proofs.Newer.{newest-none, newest-step, newest-spoilt, was-done, not-done}
use Rattle.compact.proofs.newest.newest_ids.Goals as goal

pub loop-k-init : goal.loop-k-init
loop-k-init c = (c.fill.ensures.len, le_refl _, newest-none (attrs_of c.args.attrs.now) _ _ _ ∙ ap Some (sym (c.fill.ensures.after (λ y h. h))))

pub loop-k-preserved : goal.loop-k-preserved
loop-k-preserved c =
    let (long, some, so_far) = c.loop-k.invariant in
    let wrote = rw (long, c.at.ensures) at c.write_fill.ensures.wrote in (
      c.write_fill.ensures.kept ∙ long,
      omega arith,
      newest-step (attrs_of c.args.attrs.now) _ _ _ _ _ c.loop-k-test.true some so_far ∙ was-done c.if-not-write_fill.false wrote,
    )

pub returns-then-not-write_fill-clause-newest : goal.returns-then-not-write_fill-clause-newest
returns-then-not-write_fill-clause-newest c =
    let (long, some, so_far) = c.loop-k.invariant in
    let wrote = rw (long, c.at.ensures) at c.write_fill.ensures.wrote in
    sym (newest-spoilt (attrs_of c.args.attrs.now) _ _ _ (c.loop-k.k - 1) (omega arith) (newest-step (attrs_of c.args.attrs.now) _ _ _ _ _ c.loop-k-test.true some so_far ∙ not-done _ c.if-not-write_fill.true wrote))
