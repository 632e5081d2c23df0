-- Invariant: so far the commands are painted as single steps would paint them.
use Rattle.std.proofs.Common.{◌≡◌, ◌-◌, ◌≤◌, ◌/◌, ℕ, List}
use Rattle.sizes.specs.Sizes.{piece-size}
use Rattle.screen.specs.Depths.{depths}
use Rattle.paint.specs.Painting.{word}
use Rattle.paint.specs.Kinds.{place, Reaches}
use Rattle.paint.specs.Rows.{steps_of}
use Rattle.paint.proofs.whole.commands.run_commands.Given as goal

abbrev pub invariant-loop-at : goal.invariant-loop-at
invariant-loop-at l = record {
  reaches : (ms : List ℕ) → Reaches (steps_of l.row) (depths l.depth ms) (word l.row.state.now 1)
      (place l.start (l.initial.pieces.at / piece-size) l.nesting l.initial.pieces.list.now) (place l.at (l.pieces.at / piece-size) l.level l.pieces.list.now);
  at_le_stop : l.at ≤ l.stop;
  same : l.pieces.list.ghost_name ≡ l.initial.pieces.list.ghost_name;
}

abbrev pub decreases-loop-at : goal.decreases-loop-at
decreases-loop-at l = l.stop - l.at
