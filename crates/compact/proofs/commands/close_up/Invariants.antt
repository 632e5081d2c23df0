-- Invariant: the commands before place k are passed, and those that are kept of them stand at the front.
use Rattle.std.proofs.Common.{◌≡◌, ◌-◌, List, Some}
use Rattle.sizes.specs.Widths.{bucket-tiles}
use Rattle.rules.specs.Commands.{Command}
use Rattle.paint.specs.Reading.{attrs_of}
use Rattle.compact.specs.Reading.{commands-from}
use Rattle.compact.proofs.Passing.{Passing}
use Rattle.compact.proofs.commands.close_up.Given as goal

abbrev pub invariant-loop-k : goal.invariant-loop-k
invariant-loop-k l =
    (cs : List Command) → commands-from (attrs_of l.fn.attrs) l.fn.render_cmds 0 l.count ≡ Some cs
    → Passing (bucket-tiles l.width) (attrs_of l.fn.attrs) l.ids cs l.render_cmds l.left l.k l.count

abbrev pub decreases-loop-k : goal.decreases-loop-k
decreases-loop-k l = l.count - l.k
