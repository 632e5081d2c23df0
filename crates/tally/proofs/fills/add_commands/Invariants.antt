-- Invariant: the commands before place k are added.
use Rattle.std.proofs.Common.{◌+◌, ◌*◌, ◌-◌}
use Rattle.sizes.specs.Sizes.{tile-end, most-room}
use Rattle.paint.specs.Painting.{command-at}
use Rattle.paint.specs.Reading.{attrs_of}
use Rattle.compact.specs.Passing.{kind-of}
use Rattle.compact.specs.Reading.{good-command}
use Rattle.tally.specs.Counts.{figures-of}
use Rattle.tally.proofs.Adding.{Added}
use Rattle.tally.proofs.fills.add_commands.Given as goal

abbrev pub invariant-loop-k : goal.invariant-loop-k
invariant-loop-k l =
    let a = attrs_of l.fn.attrs in
    Added l.width l.ids (λ k. good-command a (command-at l.fn.render_cmds k)) (kind-of a) l.count (figures-of l.fn.figures) (most-room + most-room * tile-end)
    l.k (figures-of l.figures)

abbrev pub decreases-loop-k : goal.decreases-loop-k
decreases-loop-k l = l.count - l.k
