-- So far the depth fills from the last down to k are painted, a step each.
use Rattle.std.proofs.Common.{◌≡◌, ◌-◌, ◌≤◌, ℕ, [], ◌∷◌, length}
use Rattle.sizes.specs.Sizes.{most-layers}
use Rattle.screen.specs.Depths.{depths}
use Rattle.paint.specs.Painting.{word, out, listed}
use Rattle.paint.specs.Kinds.{Onward}
use Rattle.paint.specs.Rows.{steps_of, count_of}
use Rattle.paint.proofs.whole.depths.run_depths.Given as goal

abbrev pub invariant-loop-k : goal.invariant-loop-k
invariant-loop-k l = record {
  below : l.k ≤ l.left;
  above : l.stop ≤ l.k;
  same : l.pieces.list.ghost_name ≡ l.initial.pieces.list.ghost_name;
  depth : length l.depth ≡ length l.initial.depth;
  minima : length l.minima ≡ length l.initial.minima;
  list : length l.pieces.list.now ≡ length l.initial.pieces.list.now;
  onward : (m : ℕ) → m ≤ most-layers → Onward (steps_of l.row) (l.left - l.k)
      (out (listed (count_of l.initial.pieces)) (depths l.initial.depth l.initial.minima) ((word l.row.state.now 1 - l.left) ∷ m ∷ []) l.initial.pieces.list.now)
      (out (listed (count_of l.pieces)) (depths l.depth l.minima) ((word l.row.state.now 1 - l.k) ∷ m ∷ []) l.pieces.list.now);
}

abbrev pub decreases-loop-k : goal.decreases-loop-k
decreases-loop-k l = l.k
