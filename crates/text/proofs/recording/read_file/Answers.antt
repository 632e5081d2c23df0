-- 3 for the bytes; else what their words say.
use Rattle.std.proofs.Common.{sym, ◌∙◌}
use Rattle.screen.specs.Screens.{setup-of}
use Rattle.text.proofs.Bytes.{bad-size, size-read}
use Rattle.text.proofs.recording.read_file.Goals as goal

pub returns-then-not-is_good_bytes-clause-size : goal.returns-then-not-is_good_bytes-clause-size
returns-then-not-is_good_bytes-clause-size c = bad-size c.args.file.edition c.args.file.bytes.now (setup-of c.args.setup) (sym c.is_good_bytes.ensures ∙ c.if-not-is_good_bytes.true)

pub returns-clause-size : goal.returns-clause-size
returns-clause-size c =
    size-read c.args.file.bytes.now _ (sym c.is_good_bytes.ensures ∙ c.if-not-is_good_bytes.false) c.words_of_bytes-n.ensures c.args.file.edition (setup-of c.args.setup) c.size_of.ensures.value
