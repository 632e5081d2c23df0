-- So far the fill's unset runs before bucket b are in the list and have its id, and the minima above them are mended.
use Rattle.std.proofs.Common.{◌≡◌, ◌-◌, length}
use Rattle.rules.specs.Minima.{halvings}
use Rattle.paint.specs.Scales.{tiles_in}
use Rattle.paint.proofs.DepthFills.{Filled}
use Rattle.paint.proofs.whole.depths.put_depth.Given as goal

abbrev pub invariant-loop-b : goal.invariant-loop-b
invariant-loop-b l = record {
  filled : Filled l.initial.depth l.mark.id l.initial.b l.hi (tiles_in l.scale) l.fill.attrs_idx l.mark.panel l.initial.pieces.list.now l.initial.pieces.at
      (halvings (length l.initial.depth)) l.initial.minima l.b l.pieces.at l.pieces.list.now l.depth l.minima;
  same : l.pieces.list.ghost_name ≡ l.initial.pieces.list.ghost_name;
}

abbrev pub decreases-loop-b : goal.decreases-loop-b
decreases-loop-b l = l.hi - l.b
