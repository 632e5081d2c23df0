use Rattle.std.proofs.Common.{sym, ◌∙◌, ap, arith}
use Rattle.std.specs.Prelude.{option_map}
use Rattle.cmd.specs.DepthFills.{depth-fill}
use Rattle.cmd.proofs.BothWays.{depth-reads-good}
use Rattle.tally.proofs.fills.look_depth.Goals as goal

pub times-requires : goal.times-requires
times-requires c =
    let g = depth-reads-good _ _ _ _ (sym c.read.ensures ∙ ap (option_map depth-fill) c.in_ok-fill.was) in
    let p = g.in_order in
    let q = g.in-limit in
    let h = c.requires in
    omega arith

pub times-requires-2 : goal.times-requires-2
times-requires-2 c =
    let g = depth-reads-good _ _ _ _ (sym c.read.ensures ∙ ap (option_map depth-fill) c.in_ok-fill.was) in
    let q = g.in-limit in
    let h = c.requires in
    omega arith
