use Rattle.std.proofs.Common.{ap, sym, ◌∙◌}
use Rattle.row.specs.Words.{Words}
use Rattle.paint.specs.StoredCmds.{depth-of-row}
use Rattle.theorem_once.proofs.reading.depth_twice.Goals as goal

pub returns : goal.returns
returns c = λ same. c.depth_cmd.ensures ∙ ap (λ (w : Words). depth-of-row c.args.screen c.args.row w c.args.number) same ∙ sym c.depth_cmd-2.ensures
