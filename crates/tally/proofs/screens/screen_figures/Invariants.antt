-- Invariant: the rows before this one are counted.
use Rattle.std.proofs.Common.{◌≡◌, ◌*◌, ◌-◌, ◌≤◌}
use Rattle.rules_figures.specs.Figures.{plus}
use Rattle.paint.specs.Judging.{count}
use Rattle.paint.specs.Painting.{attrs-at}
use Rattle.paint.specs.StoredCmds.{stored_words}
use Rattle.tally.specs.Counts.{figures-of, Within, row-most}
use Rattle.tally.proofs.OneScreen.{from}
use Rattle.tally.proofs.screens.screen_figures.Given as goal

abbrev pub invariant-loop-row : goal.invariant-loop-row
invariant-loop-row l =
    (l.row ≤ count l.screen)
    × Within (l.row * row-most) (figures-of l.figures)
    × (plus (figures-of l.figures) (from l.screen (attrs-at l.stored.paint_attrs.now l.screen.paint_attrs l.stored.layer_attrs.now l.screen.layer_attrs) (stored_words l.stored) l.row (count l.screen))
    ≡ from l.screen (attrs-at l.stored.paint_attrs.now l.screen.paint_attrs l.stored.layer_attrs.now l.screen.layer_attrs) (stored_words l.stored) 0 (count l.screen))

abbrev pub decreases-loop-row : goal.decreases-loop-row
decreases-loop-row l = count l.screen - l.row
