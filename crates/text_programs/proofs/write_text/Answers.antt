use Rattle.text_programs.proofs.Outputs.{write_more}
use Rattle.text_programs.proofs.write_text.Goals as goal

pub loop-done-preserved : goal.loop-done-preserved
loop-done-preserved g c = write_more _ _ _ _ _ _ c.loop-done.invariant.0 c.in_ok-n.ensures.count c.loop-done.invariant.1 c.in_ok-n.ensures.bytes
