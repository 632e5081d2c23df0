use Rattle.std.proofs.Common.{arith}
use Rattle.rules.specs.Depth.{is-visible}
use Rattle.depth.proofs.Filling.{fill_next, fill_all}
use Rattle.depth.proofs.runs.list_runs.Goals as goal

pub loop-run-preserved : goal.loop-run-preserved
loop-run-preserved c =
    let run = c.in-Some.ensures in
    fill_next (is-visible _) _ _ _ _ _ _ _ _ c.loop-run.invariant _ _ _ _ (omega (arith, run.after, run.some)) run.runs c.max.ensures c.min.ensures

pub returns : goal.returns
returns c = fill_all (is-visible _) _ _ _ _ _ _ _ _ c.loop-run.invariant c.requires.hi_in_bounds_2 c.in_default.ensures.runs
