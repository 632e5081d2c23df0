use Rattle.std.proofs.Common.{rules, ◌∙◌}
use Rattle.text_programs.proofs.Streaming.{one_more, cut_off, at_end, all_counted, done_begun}
use Rattle.text_programs.proofs.stream.answer_all.Goals as goal

pub returns-in_err-answer_next-clause-begun : goal.returns-in_err-answer_next-clause-begun
returns-in_err-answer_next-clause-begun g c =
    cut_off _ (g.D.Replies.reply c.loop-i.desk) c.loop-i.invariant.3 _ _ _ _ _ _ _ c.loop-i-test.true c.loop-i.invariant.4 (rw c.loop-i.invariant.1 at c.in_err-answer_next.ensures.begun)

pub returns-then-not-branch-clause-ok : goal.returns-then-not-branch-clause-ok
returns-then-not-branch-clause-ok g c =
    at_end _ _ _ g.W.Write.contents _ _ _ _ _ _ _ c.if-not-branch.true c.loop-i.invariant.4 (rw c.loop-i.invariant.1 at c.in_ok-answer_next.ensures.ok)

pub returns-then-not-branch-clause-begun : goal.returns-then-not-branch-clause-begun
returns-then-not-branch-clause-begun g c =
    done_begun _ _ _ _ _ (at_end _ _ _ g.W.Write.contents _ _ _ _ _ _ _ c.if-not-branch.true c.loop-i.invariant.4 (rw c.loop-i.invariant.1 at c.in_ok-answer_next.ensures.ok))

pub loop-i-preserved : goal.loop-i-preserved
loop-i-preserved g c = (
  c.in_ok-answer_next.ensures.ready,
  search rules,
  search rules,
  (λ j x. c.in_ok-answer_next.ensures.same j x ∙ c.loop-i.invariant.3 j x),
  one_more _ (g.D.Replies.reply c.loop-i.desk) c.loop-i.invariant.3 _ _ _ _ _ _ _ _ _ _ c.if-not-branch.false c.loop-i-test.true c.loop-i.invariant.4 (rw c.loop-i.invariant.1 at c.in_ok-answer_next.ensures.ok),
)

pub returns-clause-ok : goal.returns-clause-ok
returns-clause-ok g c = all_counted _ _ _ _ _ _ _ c.loop-i-test.false c.loop-i.invariant.4

pub returns-clause-begun : goal.returns-clause-begun
returns-clause-begun g c = done_begun _ _ _ _ _ (all_counted _ _ _ _ _ _ _ c.loop-i-test.false c.loop-i.invariant.4)
