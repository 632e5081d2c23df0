-- All are good, so what a judge of the range would say is whether it is in order.
use Rattle.std.proofs.Common.{refl, sym, ap, ◌∙◌, ℕ, eqb}
use Rattle.segments.proofs.Judging.{none_before, all-ordered, broken-here, again}
use Rattle.file.proofs.Listed.{range-order, range-good, range-judged, four-or-five}
use Rattle.file.proofs.judge.is_ordered.Goals as goal

pub loop-i-init : goal.loop-i-init
loop-i-init c = record { before = range-order _ _ _ c.requires.range; rest = none_before _ }

pub returns-then-not-precedes : goal.returns-then-not-precedes
returns-then-not-precedes c =
    four-or-five _
    ∙ ap (λ (n : ℕ). eqb n 0) (broken-here c.loop-i.invariant c.loop-i-test.true c.segment_at-next.ensures
    (range-good _ _ _ c.requires.range c.requires.good _ c.loop-i-test.true c.segment_at-next.ensures) (sym c.precedes.ensures ∙ c.if-not-precedes.true))
    ∙ range-judged _ _ _ c.requires.range c.requires.good

pub loop-i-preserved : goal.loop-i-preserved
loop-i-preserved c =
    again c.loop-i.invariant c.loop-i-test.true c.segment_at-next.ensures
    (range-good _ _ _ c.requires.range c.requires.good _ c.loop-i-test.true c.segment_at-next.ensures) (sym c.if-not-precedes.false ∙ c.precedes.ensures)

pub returns : goal.returns
returns c = ap (λ (n : ℕ). eqb n 0) (all-ordered c.loop-i.invariant c.loop-i-test.false refl) ∙ range-judged _ _ _ c.requires.range c.requires.good
