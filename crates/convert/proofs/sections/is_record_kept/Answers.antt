use Rattle.std.proofs.Common.{arith, ◌∙◌}
use Rattle.convert.proofs.Kept.{part-zeros}
use Rattle.convert.proofs.sections.is_record_kept.Goals as goal

pub returns : goal.returns
returns c = c.are_zeros.ensures ∙ part-zeros c.args.kept c.args.words.now (omega arith)
