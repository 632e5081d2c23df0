-- A number that says no edition is refused, then words that ask for no setup. Where the state's words stand for no screen the answer is 4; else the call's own
-- equation, carried over to the words.
use Rattle.std.proofs.Common.{rules}
use Rattle.screen.specs.Screens.{setup-of}
use Rattle.screen.specs.Tables.{Tables}
use Rattle.screen.specs.Lent.{tables_in}
use Rattle.host.proofs.Figured.{figures_told, figures_unasked, figures-asked, figures_unheld, figures_built, refused-holds}
use Rattle.host.proofs.figures.coarse_figures.Goals as goal

pub returns-in-Err-read_setup-clause-figured : goal.returns-in-Err-read_setup-clause-figured
returns-in-Err-read_setup-clause-figured c =
    rw c.number-in-Err-read_setup.ensures (figures_told _ _ _ _ _ _ _ c.in-Ok.ensures (figures_unasked _ _ _ _ _ _ c.in-Err-read_setup.ensures))

pub returns-in_default-clause-figured : goal.returns-in_default-clause-figured
returns-in_default-clause-figured c =
    rw c.number-in_default.ensures
    (figures_told _ _ _ _ _ _ _ c.in-Ok.ensures
    (figures-asked _ _ _ _ _ (setup-of c.in-Ok-read_setup.asked) c.in-Ok-read_setup.ensures (figures_unheld _ _ _ _ _ c.in_default.ensures)))

pub returns-clause-refused : goal.returns-clause-refused
returns-clause-refused c = refused-holds _ _ c.leave.ensures.0 c.figures-done.ensures.refused

pub returns-clause-figured : goal.returns-clause-figured
returns-clause-figured c =
    let t : Tables = tables_in c.args.tables.now in
    let e = figures_told _ _ _ _ t _ _ c.in-Ok.ensures
    (figures-asked _ _ _ t _ (setup-of c.in-Ok-read_setup.asked) c.in-Ok-read_setup.ensures
    (figures_built _ _ _ t _ _ _ _ _ _ c.in-Some.ensures c.leave.ensures.0 c.leave.ensures.1 _ _ c.figures-done.ensures.figured)) in
    search (rules, e)
