-- Invariant: the depth fills from place k on are written.
use Rattle.std.proofs.Common.{◌≡◌, ◌≤◌, ◌-◌, length, Some, option_map}
use Rattle.rules.specs.Compacted.{newest-ids}
use Rattle.paint.specs.Reading.{attrs_of}
use Rattle.compact.specs.Reading.{fills-from}
use Rattle.compact.proofs.newest.newest_ids.Given as goal

abbrev pub invariant-loop-k : goal.invariant-loop-k
invariant-loop-k l =
    (length l.ids ≡ length l.fn.ids)
    × (l.k ≤ l.count)
    × (option_map (newest-ids (attrs_of l.fn.attrs) (length l.fn.ids)) (fills-from (attrs_of l.fn.attrs) (length l.fn.ids) l.fn.depth_cmds l.k (l.count - l.k)) ≡ Some l.ids)

abbrev pub decreases-loop-k : goal.decreases-loop-k
decreases-loop-k l = l.k
