use Rattle.text.specs.Printed.{row_words}
use Rattle.text.proofs.Runs.{row_written}
use Rattle.text.proofs.rows.RowTextPrint.print.Goals as goal

pub returns : goal.returns
returns c = row_written _ _ (row_words c.args.self.now) c.print.ensures c.print_depths.ensures c.print_commands.ensures
