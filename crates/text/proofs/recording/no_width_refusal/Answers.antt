-- 3 for the bytes; else what their words say.
use Rattle.std.proofs.Common.{sym, ◌∙◌}
use Rattle.text.proofs.Bytes.{no-width-bad, no-width-read}
use Rattle.text.proofs.recording.no_width_refusal.Goals as goal

pub returns-then-not-is_good_bytes : goal.returns-then-not-is_good_bytes
returns-then-not-is_good_bytes c = no-width-bad c.args.file.edition c.args.file.bytes.now (sym c.is_good_bytes.ensures ∙ c.if-not-is_good_bytes.true)

pub returns : goal.returns
returns c =
    no-width-read c.args.file.bytes.now _ (sym c.is_good_bytes.ensures ∙ c.if-not-is_good_bytes.false) c.words_of_bytes-n.ensures c.args.file.edition c.no_width_of.ensures
