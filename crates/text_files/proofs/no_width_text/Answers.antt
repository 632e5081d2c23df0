use Rattle.std.proofs.Common.{◌∙◌}
use Rattle.text_files.proofs.Laws.{no-width-line, line-shown}
use Rattle.text_files.proofs.no_width_text.Goals as goal

pub returns : goal.returns
returns c =
    let f = c.args.file in
    let line = line-shown _ _ (no-width-line f.edition f.bytes.now) c.args.out.now c.requires (c.number.ensures ∙ c.no_width_refusal.ensures) c.refusal_line.ensures in
    record { value = c.unwrap_or.ensures ∙ line.0; out_after = line.1 }
