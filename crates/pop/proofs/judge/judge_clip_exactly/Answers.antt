-- The rows' number is 4, 10 or 0; the list's, 8 and 9 come between; then the clip's segments are counted.
use Rattle.std.proofs.Common.{sym, arith}
use Rattle.std.proofs.lemmas.Bool.Decides.{nat_tests}
use Rattle.std.proofs.lemmas.Result.{err_from_is_err_and}
use Rattle.sizes.proofs.Refusals.{not_done}
use Rattle.row.proofs.RoomLaws.{never_bad}
use Rattle.segments.proofs.Laws.{judged}
use Rattle.pop.specs.Closing.{pops-number}
use Rattle.pop.specs.Pop.{late}
use Rattle.pop.proofs.judge.judge_clip_exactly.Goals as goal

pub returns-in_err-fault : goal.returns-in_err-fault
unfolding late pops-number
returns-in_err-fault c =
    let p = err_from_is_err_and c.from_residual.result c.from_residual.ensures.1 in
    rw (p.1, p.2, c.in_err-fault.ensures.0) (grind (arith, nat_tests))

pub returns-in_err-judge_segments : goal.returns-in_err-judge_segments
unfolding late pops-number
returns-in_err-judge_segments c =
    let p = err_from_is_err_and c.from_residual-in_err-judge_segments.result c.from_residual-in_err-judge_segments.ensures.1 in
    let k = never_bad c.in_ok-fault.fault in
    rw (p.1, p.2) (grind (arith, nat_tests, not_done))

pub returns-then-screen-gt-LAST_ID : goal.returns-then-screen-gt-LAST_ID
unfolding late pops-number
returns-then-screen-gt-LAST_ID c = let k = never_bad c.in_ok-fault.fault in grind (arith, nat_tests)

pub returns-then-screen-ge-MOST_ATTRS : goal.returns-then-screen-ge-MOST_ATTRS
unfolding late pops-number
returns-then-screen-ge-MOST_ATTRS c = let k = never_bad c.in_ok-fault.fault in grind (arith, nat_tests)

pub returns-in_err-answer : goal.returns-in_err-answer
unfolding late pops-number
returns-in_err-answer c =
    let p = err_from_is_err_and c.from_residual-in_err-answer.result c.from_residual-in_err-answer.ensures.1 in
    let k = never_bad c.in_ok-fault.fault in
    rw (p.1, p.2) (grind (arith, nat_tests, not_done))

pub is_full_clip-requires : goal.is_full_clip-requires
unfolding pops-number
is_full_clip-requires c =
    let k = never_bad c.in_ok-fault.fault in
    record {
      whole = c.requires.whole;
      band = c.requires.band;
      ordered = c.requires.ordered;
      listed = c.requires.listed;
      segments = (judged _ (sym c.in_ok-judge_segments.ensures)).good;
      starts = c.requires.starts;
      good = grind (arith, nat_tests);
    }

pub returns-then-is_full_clip : goal.returns-then-is_full_clip
unfolding late pops-number
returns-then-is_full_clip c = grind (arith, nat_tests)

pub returns : goal.returns
unfolding late pops-number
returns c = grind (arith, nat_tests)
