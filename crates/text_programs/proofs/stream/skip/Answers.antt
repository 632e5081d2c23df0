use Rattle.std.proofs.Common.{rules, arith}
use Rattle.text_programs.proofs.Inputs.{taken-skipped, skip_more, skip_end, gone_more}
use Rattle.text_programs.proofs.stream.skip.Goals as goal

pub returns-then-got-eq0-clause-ok : goal.returns-then-got-eq0-clause-ok
returns-then-got-eq0-clause-ok g c =
    skip_end _ _ _ _ _ _ _ c.read.new.buf (search rules) c.if-got-eq0.true c.in_ok-got.ensures.bytes (omega arith) c.loop-left.invariant.1

pub loop-left-preserved : goal.loop-left-preserved
loop-left-preserved g c =
    let few = c.in_ok-got.ensures.at_most in
    (omega arith, skip_more _ _ _ _ _ _ (omega arith) c.loop-left.invariant.1 (taken-skipped _ _ _ _ c.read.new.buf c.in_ok-got.ensures.count c.in_ok-got.ensures.bytes))

pub returns-in_err-got-clause-gone : goal.returns-in_err-got-clause-gone
returns-in_err-got-clause-gone g c = let left = c.loop-left.invariant.0 in gone_more _ _ _ _ _ _ (omega arith) c.loop-left.invariant.1 c.in_err-got.ensures.gone

pub returns-then-got-eq0-clause-gone : goal.returns-then-got-eq0-clause-gone
returns-then-got-eq0-clause-gone g c = let left = c.loop-left.invariant.0 in gone_more _ _ _ _ _ _ (omega arith) c.loop-left.invariant.1 c.in_ok-got.ensures.gone
