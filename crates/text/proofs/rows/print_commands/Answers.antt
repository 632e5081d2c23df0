use Rattle.text.proofs.Runs.{joined-none, joined-more}
use Rattle.text.proofs.rows.print_commands.Goals as goal

pub loop-k-init : goal.loop-k-init
loop-k-init c = joined-none _ _

pub loop-k-preserved : goal.loop-k-preserved
loop-k-preserved c = joined-more _ _ c.loop-k.invariant c.print_command.ensures
