use Rattle.std.proofs.Common.{◌∙◌}
use Rattle.text_list.proofs.Told.{words-told}
use Rattle.text_list.proofs.no_width_refusal.Goals as goal

pub returns-in-Ok-clause-value : goal.returns-in-Ok-clause-value
returns-in-Ok-clause-value c = c.no_width_of.ensures ∙ words-told c.args.file.edition c.args.file.bytes.now _ c.in-Ok.ensures.value
