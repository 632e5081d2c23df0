use Rattle.text_why.proofs.Lines.{no_lines, more-lines}
use Rattle.text_why.proofs.print_kind_lines.Goals as goal

pub loop-attribute-init : goal.loop-attribute-init
loop-attribute-init c = no_lines _ _ _

pub loop-attribute-preserved : goal.loop-attribute-preserved
loop-attribute-preserved c = more-lines _ _ _ c.loop-attribute.invariant c.print_line.ensures
