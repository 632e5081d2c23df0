use Rattle.std.proofs.Common.{◌∙◌, refl, arith}
use Rattle.rules.specs.Lines.{line-bytes, refused}
use Rattle.text_files.proofs.Laws.{line-shown}
use Rattle.text_figures.proofs.many_text.Goals as goal

pub returns-clause-value : goal.returns-clause-value
returns-clause-value c =
    c.unwrap_or.ensures ∙ (line-shown 4 (line-bytes (refused 4)) refl c.args.out.now (omega (arith, c.requires)) c.number.ensures c.refusal_line.ensures).0

pub returns-clause-out_after : goal.returns-clause-out_after
returns-clause-out_after c =
    (line-shown 4 (line-bytes (refused 4)) refl c.args.out.now (omega (arith, c.requires)) c.number.ensures c.refusal_line.ensures).1
