-- What a reset leaves of a screen that was there is asked of one screen.
use Rattle.std.proofs.Common.{arith}
use Rattle.std.proofs.lemmas.Grind.{common_steps}
use Rattle.screen.specs.Screens.{frame, fresh-screen}
use Rattle.theorem_once.proofs.building.reset_twice.Goals as goal

pub returns : goal.returns
returns c = λ same.
    let any = fresh-screen (frame c.args.setup c.args.viewport) in
    let e = c.reset.ensures.reset any in
    let f = c.reset-2.ensures.reset any in
    grind (arith, common_steps)
