use Rattle.std.proofs.Common.{ap, sym, ◌∙◌}
use Rattle.row.specs.Words.{Words}
use Rattle.paint.specs.StoredCmds.{lengths-of-row}
use Rattle.theorem_once.proofs.reading.lengths_twice.Goals as goal

pub returns : goal.returns
returns c = λ same. c.row_lengths.ensures ∙ ap (λ (w : Words). lengths-of-row c.args.screen c.args.row w) same ∙ sym c.row_lengths-2.ensures
