-- 4 for the tables, else the text.
use Rattle.std.proofs.Common.{sym, ◌∙◌}
use Rattle.text.specs.Dumped.{tables_of}
use Rattle.text.proofs.Pieces.{attrs-few}
use Rattle.text.proofs.RowTexts.{attrs-bad, attrs-done}
use Rattle.text.proofs.painted.attrs_text.Goals as goal

pub returns-then-not-is_good_tables : goal.returns-then-not-is_good_tables
returns-then-not-is_good_tables c = attrs-bad _ _ (tables_of c.args.tables.now) _ (sym c.is_good_tables.ensures ∙ c.if-not-is_good_tables.true)

pub try_print_first-requires-clause-within : goal.try_print_first-requires-clause-within
try_print_first-requires-clause-within c = rw c.attrs_room.ensures (attrs-few _ _ (tables_of c.args.tables.now))

pub returns : goal.returns
returns c = c.try_print_first.ensures ∙ attrs-done _ _ (tables_of c.args.tables.now) _ (sym c.is_good_tables.ensures ∙ c.if-not-is_good_tables.false)
