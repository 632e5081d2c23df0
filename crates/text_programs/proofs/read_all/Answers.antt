use Rattle.std.proofs.Common.{rules}
use Rattle.text_programs.proofs.Inputs.{read_more}
use Rattle.text_programs.proofs.read_all.Goals as goal

pub loop-done-preserved : goal.loop-done-preserved
loop-done-preserved g c = (search rules, read_more _ _ _ _ _ _ _ _ c.loop-done.invariant.0 c.in_ok-n.ensures.count c.loop-done.invariant.1 c.in_ok-n.ensures.bytes.0)
