use Rattle.std.proofs.Common.{refl, arith, rules}
use Rattle.sizes.proofs.Refusals.{not_done}
use Rattle.fill.proofs.Numbers.{by_first}
use Rattle.fill.proofs.Still.{still, refused-is}
use Rattle.fill.proofs.InOrder.{all_done, stopped, turned, none_asked, stopped_first}
use Rattle.fill.proofs.list.fill_turns.Goals as goal

pub returns-then-draws-clause-filled : goal.returns-then-draws-clause-filled
returns-then-draws-clause-filled g c = none_asked _ _ _ _ _ _ _ c.if-draws.true

pub returns-in-Err-clause-filled : goal.returns-in-Err-clause-filled
returns-in-Err-clause-filled g c =
    stopped_first _ _ _ _ _ _ _ (omega (arith, c.requires.order, c.if-draws.false)) _ _
    (refused-is _ _ _ _ (by_first _ _ _ _ (rw c.in-Err.is at c.judge_lent.ensures) (not_done _)) (not_done _)) (not_done _)

pub fill_one-requires-clause-known : goal.fill_one-requires-clause-known
fill_one-requires-clause-known g c =
    λ e. rw (c.draw_at-draw.ensures, c.draw.ensures.same) (c.requires.known e c.loop-i.i (omega arith) c.loop-i-test.true)

pub returns-in-Err-fill_one-clause-filled : goal.returns-in-Err-fill_one-clause-filled
returns-in-Err-fill_one-clause-filled g c =
    stopped _ _ _ _ _ _ _ _ _ c.loop-i.invariant.2 c.loop-i-test.true _ _ (rw (c.draw_at-draw.ensures, c.draw.ensures.same, c.in-Err-fill_one.is) at c.fill_one.ensures.filled) (not_done _)

pub loop-i-preserved : goal.loop-i-preserved
loop-i-preserved g c =
    let e = rw (c.draw_at-draw.ensures, c.draw.ensures.same, c.in_default-fill_one.is) at c.fill_one.ensures.filled in
    let s = c.fill_one.ensures.same in (
      search rules,
      still _ _ _ _ _ c.loop-i.invariant.1 e s.states-long s.renders-long s.fills-long c.fill_one.auto.paint_attrs,
      turned _ _ _ _ _ _ _ _ _ c.loop-i.invariant.2 c.loop-i-test.true _ _ e (omega arith) refl,
    )

pub returns-clause-filled : goal.returns-clause-filled
returns-clause-filled g c = all_done _ _ _ _ _ _ _ _ _ c.loop-i.invariant.2 c.loop-i-test.false (omega arith)
