-- Each side begins in the scene and is no wider than a viewport, so it is no number that wrapped.
use Rattle.std.proofs.Common.{arith, ◌<◌, ◌≤◌}
use Rattle.std.proofs.lemmas.Bool.Decides.{nat_tests}
use Rattle.rules.specs.Boxes.{good_viewport}
use Rattle.host.proofs.sure.is_view.Goals as goal

pub returns : goal.returns
unfolding good_viewport
returns c all =
    let left : c.args.v.x0 < 32768 = grind (arith, nat_tests) in
    let top : c.args.v.y0 < 32768 = grind (arith, nat_tests) in
    let wide : c.args.w ≤ 4096 = grind (arith, nat_tests) in
    let high : c.args.h ≤ 2048 = grind (arith, nat_tests) in
    let across = c.requires.0 left wide in
    let down = c.requires.1 top (omega arith) in
    record { good = grind (arith, nat_tests); across = across.1; down = down.1 }
