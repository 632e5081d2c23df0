-- So far the segments before i have their LayerFills; the rows still have room for those from i on.
use Rattle.screen.specs.Screens.{frame-of}
use Rattle.row.specs.Rows.{all-held, SameRows}
use Rattle.pop.proofs.Clipping.{Clipping}
use Rattle.pop.proofs.close.close_list.Given as goal

abbrev pub invariant-loop-i : goal.invariant-loop-i
invariant-loop-i l =
    SameRows l.initial.rows l.rows
    × Clipping (frame-of l.screen) l.screen.layers l.screen.layer_attrs l.list l.clip.start l.clip.«end» l.clip.scene l.band.start l.band.«end»
    (all-held l.initial.rows) l.i (all-held l.rows)
