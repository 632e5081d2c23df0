use Rattle.std.proofs.Common.{refl, sym, ◌∙◌}
use Rattle.text_long.proofs.Words.{none-read, some-read}
use Rattle.text_long.proofs.read_words.Goals as goal

pub returns-then-not-is_good_long-clause-value : goal.returns-then-not-is_good_long-clause-value
returns-then-not-is_good_long-clause-value c = (refl, none-read c.args.file.now (sym c.is_good_long.ensures ∙ c.if-not-is_good_long.true))

pub returns-clause-value : goal.returns-clause-value
returns-clause-value c = some-read c.args.file.now _ _ _ (sym c.is_good_long.ensures ∙ c.if-not-is_good_long.false) c.words_of_bytes.ensures
