-- The figures in their order, the line feed.
use Rattle.rules_figures.specs.Lines.{figures-text}
use Rattle.text.proofs.Laws.{then}
use Rattle.text_figures.proofs.print_figures.Goals as goal

pub returns : goal.returns
unfolding figures-text
returns c =
    then c.print_named.ensures
    (then c.print_named-2.ensures
    (then c.print_named-3.ensures
    (then c.print_named-4.ensures (then c.print_named-5.ensures (then c.print_named-6.ensures c.byte.ensures)))))
