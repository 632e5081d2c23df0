use Rattle.std.proofs.Common.{◌-◌, ◌∙◌}
use Rattle.rules.specs.Plans.{pop}
use Rattle.pop.specs.Closing.{Poppable}
use Rattle.pop.proofs.Judging.{act-other, pop-here, each-here}
use Rattle.pop.proofs.close.pop_row.Goals as goal

pub returns-then-rows-r-clause-rows : goal.returns-then-rows-r-clause-rows
returns-then-rows-r-clause-rows c = act-other c.requires.whole _ _ c.requires.row c.if-rows-r.true _ (c.args.screen.layers - 1) pop

pub on_row-requires : goal.on_row-requires
on_row-requires c = let p = each-here c.requires.whole _ _ c.requires.row c.if-rows-r.false Poppable c.requires.room in
    (_, record { arenas = c.requires.whole; within = c.requires.row; asked = p.0; room = p.1 })

pub returns-clause-rows : goal.returns-clause-rows
returns-clause-rows c = let p = each-here c.requires.whole _ _ c.requires.row c.if-rows-r.false Poppable c.requires.room in
    c.on_row.ensures _ (record { arenas = c.requires.whole; within = c.requires.row; asked = p.0; room = p.1 })
    ∙ pop-here c.requires.whole _ _ c.requires.row c.if-rows-r.false _ (c.args.screen.layers - 1)
