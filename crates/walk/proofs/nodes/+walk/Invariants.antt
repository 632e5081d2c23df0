-- The two walks call each other, a layer's nodes one level deeper each time: the levels that are left fall with every layer. So far no node is
-- refused, and those that are left say what all of them say.
use Rattle.std.proofs.Common.{◌+◌, ◌*◌, ◌≡◌}
use Rattle.screen.specs.Lent.{whole, SameLent}
use Rattle.file.specs.Held.{held}
use Rattle.walk.proofs.NodeRuns.{nodes}
use Rattle.walk.proofs.nodes.+walk.Given as goal

abbrev pub decreases-walk_layer : goal.decreases-walk_layer
decreases-walk_layer l = 2 * l.depth

abbrev pub decreases-walk_nodes : goal.decreases-walk_nodes
decreases-walk_nodes l = 2 * l.depth + 1

abbrev pub invariant-walk_nodes-loop-i : goal.invariant-walk_nodes-loop-i
invariant-walk_nodes-loop-i l =
    SameLent l.initial.lent l.lent
    × (nodes (held l.file) l.depth l.i l.b (whole l.screen l.lent)
    ≡ nodes (held l.file) l.depth l.a l.b (whole l.initial.screen l.initial.lent))
