use Rattle.cmd.proofs.RoundTrip.{read-written, written_read, read-written-depth, written-read-depth}
use Rattle.cmd.proofs.words_keep_commands.Goals as goal

pub returns-clause-commands_read : goal.returns-clause-commands_read
returns-clause-commands_read c = read-written

pub returns-clause-commands_written : goal.returns-clause-commands_written
returns-clause-commands_written c = written_read

pub returns-clause-depth_fills_read : goal.returns-clause-depth_fills_read
returns-clause-depth_fills_read c = read-written-depth

pub returns-clause-depth_fills_written : goal.returns-clause-depth_fills_written
returns-clause-depth_fills_written c = written-read-depth
