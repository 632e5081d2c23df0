use Rattle.std.proofs.Common.{refl, sym, ◌∙◌, arith}
use Rattle.paint.specs.Reading.{attrs_of}
use Rattle.compact.proofs.Judged.{good-on, forged-here, all-good}
use Rattle.compact.proofs.commands.is_good_commands.Goals as goal

pub returns-then-is_none : goal.returns-then-is_none
returns-then-is_none c =
    let (some, so_far) = c.loop-k.invariant in
    sym (forged-here (attrs_of c.args.attrs.now) _ _ _ _ (rw c.at.ensures at c.look.ensures) c.loop-k-test.true (rw (c.is_none.ensures, c.if-is_none.true) refl)) ∙ so_far

pub loop-k-preserved : goal.loop-k-preserved
loop-k-preserved c =
    let (some, so_far) = c.loop-k.invariant in
    (omega arith, good-on (attrs_of c.args.attrs.now) _ _ _ _ (rw c.at.ensures at c.look.ensures) c.loop-k-test.true (rw (c.is_none.ensures, c.if-is_none.false) refl) ∙ so_far)

pub returns : goal.returns
returns c =
    let (some, so_far) = c.loop-k.invariant in
    sym (all-good (attrs_of c.args.attrs.now) _ _ _ c.loop-k-test.false) ∙ so_far
