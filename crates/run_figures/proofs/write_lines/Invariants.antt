use Rattle.std.proofs.Common.{◌≡◌, ◌*◌}
use Rattle.std.specs.Io.KnownBytes.{Appends}
use Rattle.rules_figures.specs.Figures.{total}
use Rattle.rules_figures.specs.Lines.{lines-from}
use Rattle.tally.specs.Counts.{figures-of, Within, screen-most}
use Rattle.run_figures.specs.Counting.{first-figures}
use Rattle.run_figures.proofs.write_lines.Given as goal

abbrev pub invariant-loop-i : goal.invariant-loop-i
invariant-loop-i g l =
    Within (l.i * screen-most) (figures-of l.total)
    × (figures-of l.total ≡ total (first-figures l.i l.counted))
    × Appends (g.W.Write.contents l.initial.output) (g.W.Write.contents l.output) (lines-from 0 (first-figures l.i l.counted))
