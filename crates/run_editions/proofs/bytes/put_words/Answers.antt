-- One word more stands after the others.
use Rattle.std.proofs.Common.{◌∙◌, arith}
use Rattle.run_editions.proofs.Putting.{put_next, put_all, next-long}
use Rattle.run_editions.proofs.bytes.put_words.Goals as goal

pub loop-i-preserved : goal.loop-i-preserved
loop-i-preserved c = (
  next-long _ _ _ _ c.put_word.ensures (omega arith) ∙ c.loop-i.invariant.0,
  put_next _ _ _ _ _ c.loop-i-test.true c.loop-i.invariant.1 c.put_word.ensures,
)

pub returns-clause-out_after : goal.returns-clause-out_after
returns-clause-out_after c = put_all _ _ _ _ c.loop-i-test.false (omega arith) c.loop-i.invariant.1
