-- Invariant: the commands before place k are good.
use Rattle.std.proofs.Common.{◌-◌, ◌≡◌, ◌≤◌, is_some}
use Rattle.paint.specs.Reading.{attrs_of}
use Rattle.compact.specs.Reading.{commands-from}
use Rattle.compact.proofs.commands.is_good_commands.Given as goal

abbrev pub invariant-loop-k : goal.invariant-loop-k
invariant-loop-k l =
    (l.k ≤ l.count)
    × (is_some (commands-from (attrs_of l.fn.attrs) l.fn.render_cmds l.k (l.count - l.k)) ≡ is_some (commands-from (attrs_of l.fn.attrs) l.fn.render_cmds 0 l.count))

abbrev pub decreases-loop-k : goal.decreases-loop-k
decreases-loop-k l = l.count - l.k
