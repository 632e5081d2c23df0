use Rattle.std.proofs.Common.{◌∙◌}
use Rattle.text_files.proofs.Laws.{no-edition-line, line-shown}
use Rattle.text_files.proofs.no_edition_text.Goals as goal

pub returns : goal.returns
returns c =
    let line = line-shown _ _ no-edition-line c.args.out.now c.requires c.number.ensures c.refusal_line.ensures in
    record { value = c.unwrap_or.ensures ∙ line.0; out_after = line.1 }
