use Rattle.std.proofs.Common.{sym, ◌∙◌}
use Rattle.segments.proofs.Judging.{rest-begun, rest-bad, rest-on, rest-done}
use Rattle.segments.proofs.judge_rest.Goals as goal

pub loop-i-init : goal.loop-i-init
loop-i-init c = rest-begun c.args.list.now c.args.start c.args.end c.requires.0

pub returns-then-not-is_good : goal.returns-then-not-is_good
returns-then-not-is_good c = rest-bad c.loop-i.invariant c.loop-i-test.true c.segment_at.ensures (sym c.is_good.ensures ∙ c.if-not-is_good.true)

pub loop-i-preserved : goal.loop-i-preserved
loop-i-preserved c = rest-on c.loop-i.invariant c.loop-i-test.true c.segment_at.ensures (sym c.is_good.ensures ∙ c.if-not-is_good.false)

pub returns : goal.returns
returns c = rest-done c.loop-i.invariant c.loop-i-test.false
