-- Invariant: the recordings before this one are counted, and their lines stand in the table.
use Rattle.std.proofs.Common.{◌*◌, List}
use Rattle.rules_figures.specs.Figures.{Figures}
use Rattle.screen.specs.Screens.{setup-of}
use Rattle.screen.specs.Lent.{whole, SameLent}
use Rattle.tally.specs.Counts.{figures-of, Within, screen-most}
use Rattle.tally.proofs.InList.{Going}
use Rattle.tally.proofs.list.figures.Given as goal

abbrev pub invariant-loop-k : goal.invariant-loop-k
invariant-loop-k l =
    ((gs : List Figures)
    × Going l.list.edition l.list.words.now l.list.ends.now (setup-of l.setup) (whole l.fn.screen l.fn.lent) l.fn.table l.k l.at (whole l.screen l.lent)
    (figures-of l.total) l.table gs)
    × Within (l.k * screen-most) (figures-of l.total)
    × SameLent l.fn.lent l.lent
