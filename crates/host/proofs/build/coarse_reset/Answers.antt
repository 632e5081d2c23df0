-- Words that ask for no setup are refused. Where the state's words stand for no screen the border answers; else the call's own equation, carried over to
-- the words.
use Rattle.std.proofs.Common.{◌∙◌, rules}
use Rattle.screen.specs.Screens.{setup-of}
use Rattle.screen.specs.Tables.{Tables}
use Rattle.screen.specs.Lent.{tables_in}
use Rattle.host.proofs.HostAsked.{reset_asked}
use Rattle.host.proofs.Built.{reset_left}
use Rattle.host.proofs.Unheld.{reset_unheld}
use Rattle.host.proofs.build.coarse_reset.Goals as goal

pub returns-in_default-clause-reset : goal.returns-in_default-clause-reset
returns-in_default-clause-reset c =
    let t : Tables = tables_in c.args.tables.now in
    let e = reset_asked _ (setup-of c.in-Ok.asked) c.in-Ok.ensures _ _ t (reset_unheld _ _ _ _ t c.in_default.ensures c.refuse_reset.ensures) in
    let b = c.box_of-viewport.ensures in
    search (rules, e, b)

pub returns-clause-reset : goal.returns-clause-reset
returns-clause-reset c =
    let t : Tables = tables_in c.args.tables.now in
    let e =
    reset_asked _ (setup-of c.in-Ok.asked) c.in-Ok.ensures _ _ t
    (c.put_reset.ensures _ ∙ reset_left _ _ c.in-Some.ensures _ _ t _ (c.reset-done.ensures.reset c.in-Some.screen)) in
    let b = c.box_of-viewport.ensures in
    search (rules, e, b)
