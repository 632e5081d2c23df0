-- So far the parts of the rows before r are cleared.
use Rattle.std.proofs.Common.{◌≡◌, ◌*◌}
use Rattle.sizes.specs.Sizes.{renders-at, depths-at}
use Rattle.reuse.specs.Used.{rows-cleared}
use Rattle.reuse.proofs.clear_rows.Given as goal

abbrev pub invariant-loop-r : goal.invariant-loop-r
invariant-loop-r l =
    (l.render_cmds ≡ rows-cleared (4 * l.c) 4 renders-at l.r l.initial.records l.initial.render_cmds)
    × (l.depth_cmds ≡ rows-cleared (2 * l.d) 2 depths-at l.r l.initial.records l.initial.depth_cmds)
