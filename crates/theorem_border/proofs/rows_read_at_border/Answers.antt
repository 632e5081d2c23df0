use Rattle.theorem_border.proofs.Reading.{hosted-stands, alone-host-stands, lengths-read, cmds-read, no-cmd-read, depths-read, no-depth-read, progress-read}
use Rattle.theorem_border.proofs.rows_read_at_border.Goals as goal

pub returns-clause-stands : goal.returns-clause-stands
returns-clause-stands c = hosted-stands

pub returns-clause-alone : goal.returns-clause-alone
returns-clause-alone c = alone-host-stands

pub returns-clause-row_lengths : goal.returns-clause-row_lengths
returns-clause-row_lengths c = lengths-read

pub returns-clause-render_cmds : goal.returns-clause-render_cmds
returns-clause-render_cmds c = cmds-read

pub returns-clause-no_render_cmd : goal.returns-clause-no_render_cmd
returns-clause-no_render_cmd c = no-cmd-read

pub returns-clause-depth_cmds : goal.returns-clause-depth_cmds
returns-clause-depth_cmds c = depths-read

pub returns-clause-no_depth_cmd : goal.returns-clause-no_depth_cmd
returns-clause-no_depth_cmd c = no-depth-read

pub returns-clause-progress : goal.returns-clause-progress
returns-clause-progress c = progress-read
