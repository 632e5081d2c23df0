-- Each line stands after those before it, and the total of all of them last.
use Rattle.std.proofs.Common.{arith, ◌*◌}
use Rattle.std.proofs.KnownBytes.{Appends-nil}
use Rattle.rules_figures.specs.Figures.{total}
use Rattle.tally.specs.Counts.{Within, screen-most}
use Rattle.text_files.proofs.Laws.{first_taken}
use Rattle.run_figures.proofs.Writing.{within-nothing, within-more, all-here, total-next, lines-next, lines-begun, all-written, all-begun}
use Rattle.run_figures.proofs.write_lines.Goals as goal

pub loop-i-init : goal.loop-i-init
unfolding total
loop-i-init g c = (rw c.nothing-total.ensures within-nothing, c.nothing-total.ensures, Appends-nil _)

pub returns-in_err-write_text-clause-begun : goal.returns-in_err-write_text-clause-begun
returns-in_err-write_text-clause-begun g c =
    let line = first_taken _ _ _ _ c.recording_text-n.ensures.value c.recording_text-n.ensures.out_after in
    lines-begun _ _ _ c.loop-i-test.true _ _ _ c.loop-i.invariant.2 (rw line at c.in_err-write_text.ensures.begun)

pub plus-total-requires : goal.plus-total-requires
plus-total-requires g c =
    (c.loop-i.i * screen-most, screen-most, omega (arith, c.requires.few, c.loop-i-test.true), c.loop-i.invariant.0, all-here (Within screen-most) _ _ _ c.requires.small c.loop-i-test.true)

pub loop-i-preserved : goal.loop-i-preserved
loop-i-preserved g c =
    let line = first_taken _ _ _ _ c.recording_text-n.ensures.value c.recording_text-n.ensures.out_after in (
      rw c.plus-total.ensures (within-more _ screen-most _ _ c.loop-i.invariant.0 (all-here (Within screen-most) _ _ _ c.requires.small c.loop-i-test.true)),
      total-next _ _ _ c.loop-i-test.true c.loop-i.invariant.1 c.plus-total.ensures,
      lines-next _ _ _ c.loop-i-test.true _ _ _ c.loop-i.invariant.2 (rw line at c.in_ok-write_text.ensures.ok),
    )

pub returns-clause-ok : goal.returns-clause-ok
returns-clause-ok g c =
    let line = first_taken _ _ _ _ c.total_text-n.ensures.value c.total_text-n.ensures.out_after in
    all-written _ _ c.loop-i-test.false c.loop-i.invariant.1 _ _ _ c.loop-i.invariant.2 _ (rw line at c.write_text-2.ensures.ok)

pub returns-clause-begun : goal.returns-clause-begun
returns-clause-begun g c =
    let line = first_taken _ _ _ _ c.total_text-n.ensures.value c.total_text-n.ensures.out_after in
    all-begun _ _ c.loop-i-test.false c.loop-i.invariant.1 _ _ _ c.loop-i.invariant.2 (rw line at c.write_text-2.ensures.begun)
