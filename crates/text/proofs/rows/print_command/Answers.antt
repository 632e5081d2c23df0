-- A line where words stand for a command, else nothing.
use Rattle.text.proofs.Runs.{no_lines, one_line}
use Rattle.text.proofs.rows.print_command.Goals as goal

pub returns-in-Some : goal.returns-in-Some
returns-in-Some c = rw (← c.in-Some.ensures) (one_line _ c.print.ensures)

pub returns-in_default : goal.returns-in_default
returns-in_default c = rw (← c.in_default.ensures) (no_lines _)
