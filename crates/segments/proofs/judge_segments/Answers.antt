use Rattle.std.proofs.Common.{refl, sym, ◌∙◌}
use Rattle.segments.proofs.Judging.{nothing, first-bad, begun, all-ordered, broken-here, bad-here, again}
use Rattle.segments.proofs.judge_segments.Goals as goal

pub returns-then-end-start : goal.returns-then-end-start
returns-then-end-start c = nothing c.args.list.now c.args.start c.args.end c.if-end-start.true

pub returns-then-not-is_good : goal.returns-then-not-is_good
returns-then-not-is_good c = first-bad c.args.list.now c.args.start c.args.end c.if-end-start.false c.segment_at-last.ensures (sym
    c.is_good.ensures ∙ c.if-not-is_good.true)

pub loop-i-init : goal.loop-i-init
loop-i-init c = begun c.args.list.now c.args.start c.args.end c.if-end-start.false c.segment_at-last.ensures (sym
    c.is_good.ensures ∙ c.if-not-is_good.false)

pub returns-then-not-is_good-2 : goal.returns-then-not-is_good-2
returns-then-not-is_good-2 c = bad-here c.loop-i.invariant c.loop-i-test.true c.segment_at-next.ensures (sym c.is_good-in-loop-i.ensures ∙ c.if-not-is_good-2.true)

pub returns-then-not-precedes : goal.returns-then-not-precedes
returns-then-not-precedes c = c.judge_rest.ensures ∙ broken-here c.loop-i.invariant c.loop-i-test.true c.segment_at-next.ensures (sym c.is_good-in-loop-i.ensures ∙ c.if-not-is_good-2.false) (sym c.precedes.ensures ∙ c.if-not-precedes.true)

pub loop-i-preserved : goal.loop-i-preserved
loop-i-preserved c = again c.loop-i.invariant c.loop-i-test.true c.segment_at-next.ensures (sym c.is_good-in-loop-i.ensures ∙ c.if-not-is_good-2.false) (sym c.if-not-precedes.false ∙ c.precedes.ensures)

pub returns : goal.returns
returns c = all-ordered c.loop-i.invariant c.loop-i-test.false refl
