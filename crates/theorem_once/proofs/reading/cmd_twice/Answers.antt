use Rattle.std.proofs.Common.{ap, sym, ◌∙◌}
use Rattle.row.specs.Words.{Words}
use Rattle.paint.specs.StoredCmds.{command-of-row}
use Rattle.theorem_once.proofs.reading.cmd_twice.Goals as goal

pub returns : goal.returns
returns c = λ same. c.render_cmd.ensures ∙ ap (λ (w : Words). command-of-row c.args.screen c.args.row w c.args.number) same ∙ sym c.render_cmd-2.ensures
