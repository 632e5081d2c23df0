use Rattle.std.proofs.Common.{◌∙◌, rules}
use Rattle.text_programs.proofs.Numbers.{parsed}
use Rattle.text_programs.proofs.options.number.Goals as goal

pub returns : goal.returns
returns c = c.ok.ensures.value ∙ parsed c.args.text.now c.parse.result (search rules) c.parse.ensures.value.0
