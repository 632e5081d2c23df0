-- A recording is counted after those before it, or no more are left, or there is one too many.
use Rattle.std.proofs.Common.{rules, arith, ◌+◌, refl, sym, subst}
use Rattle.rules.proofs.All.{nil}
use Rattle.text_programs.specs.Arguments.{reading_of}
use Rattle.tally.specs.Counts.{Within, screen-most}
use Rattle.run_figures.proofs.Counting.{first-more, all-more, Counted, counted-none, counted-more, counted-over, counted-all}
use Rattle.run_figures.proofs.count_stream.Goals as goal

pub loop-i-init : goal.loop-i-init
loop-i-init g c = (c.requires.room, c.requires.most, nil, counted-none _ _)

pub returns-in_default-clause-read : goal.returns-in_default-clause-read
returns-in_default-clause-read g c =
    counted-all (reading_of c.args.reading) _ _ _ _ _ refl (search rules) c.loop-i.invariant.3 (rw c.in_default.is at c.in_ok-n.ensures.read)

pub loop-i-preserved : goal.loop-i-preserved
loop-i-preserved g c =
    let r = reading_of c.args.reading in
    let fs = c.loop-i.counted in
    let i = c.loop-i.i in (
      search rules,
      search rules,
      all-more fs i c.read_figures.result (search rules) (Within screen-most) c.loop-i.invariant.2 c.read_figures.ensures.small,
      subst (Counted r (i + 1) (g.R.Read.remaining c.args.input.now) (g.R.Read.remaining c.next_recording.new.input)) (sym (first-more fs i c.read_figures.result (search rules)))
          (counted-more r i (omega (arith, c.loop-i-test.true, c.requires.most)) _ _ _ _ _ _ _ (search rules) c.loop-i.invariant.3 (rw c.in-Some.is at c.in_ok-n.ensures.read)
          c.read_figures.ensures.figures),
    )

pub returns-in-Some-2-clause-read : goal.returns-in-Some-2-clause-read
returns-in-Some-2-clause-read g c =
    counted-over (reading_of c.args.reading) c.loop-i.i (search rules) _ _ _ _ _ _ _ (search rules) c.loop-i.invariant.3 (rw c.in-Some-2.is at c.in_ok-next_recording.ensures.read)

pub returns-in-None-clause-read : goal.returns-in-None-clause-read
returns-in-None-clause-read g c =
    counted-all (reading_of c.args.reading) c.loop-i.i _ _ _ _ (search rules) (search rules) c.loop-i.invariant.3 (rw c.in-None.is at c.in_ok-next_recording.ensures.read)
