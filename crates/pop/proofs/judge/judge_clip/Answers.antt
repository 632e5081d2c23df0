-- Where the look is sure, only the id and the attribute are left.
use Rattle.std.proofs.Common.{arith}
use Rattle.std.proofs.lemmas.Bool.Decides.{nat_tests}
use Rattle.pop.specs.Pop.{late}
use Rattle.pop.proofs.judge.judge_clip.Goals as goal

pub returns-then-screen-gt-LAST_ID : goal.returns-then-screen-gt-LAST_ID
unfolding late
returns-then-screen-gt-LAST_ID c = let k = c.is_sure.ensures c.if-not-is_sure.false in rw (k.rows, k.listed, k.room) (grind (arith, nat_tests))

pub returns-then-screen-ge-MOST_ATTRS : goal.returns-then-screen-ge-MOST_ATTRS
unfolding late
returns-then-screen-ge-MOST_ATTRS c = let k = c.is_sure.ensures c.if-not-is_sure.false in rw (k.rows, k.listed, k.room) (grind (arith, nat_tests))

pub returns : goal.returns
unfolding late
returns c = let k = c.is_sure.ensures c.if-not-is_sure.false in rw (k.rows, k.listed, k.room) (grind (arith, nat_tests))
