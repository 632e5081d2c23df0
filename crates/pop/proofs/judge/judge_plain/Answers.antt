-- The rows' number is 4, 10 or 0; 8 and 9 come between.
use Rattle.std.proofs.Common.{arith}
use Rattle.std.proofs.lemmas.Bool.Decides.{nat_tests}
use Rattle.std.proofs.lemmas.Result.{err_from_is_err_and}
use Rattle.row.proofs.RoomLaws.{never_bad}
use Rattle.pop.specs.Closing.{pops-number}
use Rattle.pop.specs.Pop.{late}
use Rattle.pop.proofs.judge.judge_plain.Goals as goal

pub returns-in_err-fault : goal.returns-in_err-fault
unfolding late pops-number
returns-in_err-fault c =
    let p = err_from_is_err_and c.from_residual.result c.from_residual.ensures.1 in
    rw (p.1, p.2, c.in_err-fault.ensures.0) (grind (arith, nat_tests))

pub returns-then-screen-gt-LAST_ID : goal.returns-then-screen-gt-LAST_ID
unfolding late pops-number
returns-then-screen-gt-LAST_ID c = let k = never_bad c.in_ok-fault.fault in grind (arith, nat_tests)

pub returns-then-screen-ge-MOST_ATTRS : goal.returns-then-screen-ge-MOST_ATTRS
unfolding late pops-number
returns-then-screen-ge-MOST_ATTRS c = let k = never_bad c.in_ok-fault.fault in grind (arith, nat_tests)

pub returns : goal.returns
unfolding late pops-number
returns c = let k = never_bad c.in_ok-fault.fault in grind (arith, nat_tests)
