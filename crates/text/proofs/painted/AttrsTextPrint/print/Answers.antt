-- The three tables, one after the other.
use Rattle.text.specs.Dumped.{tables_of}
use Rattle.text.proofs.RowTexts.{attrs-written}
use Rattle.text.proofs.painted.AttrsTextPrint.print.Goals as goal

pub returns : goal.returns
returns c = attrs-written _ _ (tables_of c.args.self.now.tables) c.print_paint_attrs.ensures c.print_layer_attrs.ensures c.print_filter_paints.ensures
