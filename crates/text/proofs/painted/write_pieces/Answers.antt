-- 14 for too many pieces, else the lines.
use Rattle.std.proofs.Common.{◌∙◌}
use Rattle.text.proofs.Pieces.{row-text-few}
use Rattle.text.proofs.RowTexts.{many-pieces, lines-done}
use Rattle.text.proofs.painted.write_pieces.Goals as goal

pub returns-then-n-gt65536 : goal.returns-then-n-gt65536
returns-then-n-gt65536 c = many-pieces _ _ _ _ _ c.if-n-gt65536.true

pub try_print_first-requires-clause-within : goal.try_print_first-requires-clause-within
try_print_first-requires-clause-within c = row-text-few _ _ _ _

pub returns : goal.returns
returns c = c.try_print_first.ensures ∙ lines-done _ _ _ _ _ c.if-n-gt65536.false
