-- The screen and the lengths pass. So far no fill is refused, and those that are left, with as many done before them, say what all of them say.
use Rattle.std.proofs.Common.{◌≡◌, ◌-◌}
use Rattle.row.specs.Rows.{SameRows}
use Rattle.fill.specs.Fills.{first-of-lent}
use Rattle.fill.specs.Named.{fill_lent_of}
use Rattle.fill.specs.Lists.{after_done}
use Rattle.fill.proofs.InOrder.{rest}
use Rattle.fill.proofs.list.fill_turns.Given as goal

abbrev pub invariant-loop-i : goal.invariant-loop-i
invariant-loop-i g l =
    SameRows l.initial.rows l.rows
    × (first-of-lent (fill_lent_of l.own l.rows l.paint_attrs) l.paints l.segments ≡ 0)
    × (after_done (l.i - l.draws.start) (rest l.paints l.segments l.edition l.draws.words.now l.i l.draws.end (fill_lent_of l.own l.rows l.paint_attrs))
    ≡ rest l.paints l.segments l.edition l.draws.words.now l.draws.start l.draws.end (fill_lent_of l.initial.screen l.initial.rows l.initial.paint_attrs))
