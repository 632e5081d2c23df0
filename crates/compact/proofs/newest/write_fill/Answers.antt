use Rattle.std.proofs.Common.{sym, ◌∙◌, ap}
use Rattle.std.specs.Prelude.{option_map}
use Rattle.cmd.specs.DepthFills.{depth-fill}
use Rattle.cmd.proofs.BothWays.{depth-reads-good}
use Rattle.compact.proofs.newest.write_fill.Goals as goal

pub write_unset-requires : goal.write_unset-requires
write_unset-requires c = (depth-reads-good _ _ _ _ (sym c.read.ensures ∙ ap (option_map depth-fill) c.in-Some.is)).in-limit
