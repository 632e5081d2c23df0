-- Invariant: the pieces of the runs up to bucket `from` are in the list, and those from there on are still to come.
use Rattle.std.proofs.Common.{◌≡◌, ◌-◌}
use Rattle.paint.specs.Cuts.{end_met}
use Rattle.paint.proofs.Putting.{PutCut}
use Rattle.paint.proofs.whole.pieces.put_fill.Given as goal

abbrev pub invariant-loop-run : goal.invariant-loop-run
invariant-loop-run l = record {
  put : PutCut l.cut l.depth l.initial.pieces.at l.initial.pieces.list.now l.from l.pieces.at l.pieces.list.now;
  same : l.pieces.list.ghost_name ≡ l.initial.pieces.list.ghost_name;
}

abbrev pub decreases-loop-run : goal.decreases-loop-run
decreases-loop-run l = end_met l.cut - l.from
