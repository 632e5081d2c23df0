-- No segment before i fills its row; the commands of the row at hand are counted along.
use Rattle.rules.specs.Lists.{range}
use Rattle.row.specs.Room.{at-hand}
use Rattle.screen.specs.Screens.{frame-of}
use Rattle.row.specs.Rows.{all-held}
use Rattle.row.specs.Building.{rows_at}
use Rattle.pop.specs.Closing.{touched-in}
use Rattle.pop.proofs.Clipping.{Counting}
use Rattle.pop.proofs.rows.is_full_clip.Given as goal

abbrev pub invariant-loop-i : goal.invariant-loop-i
invariant-loop-i l =
    Counting l.screen.c l.screen.d (touched-in l.screen.layers (rows_at (frame-of l.screen) (all-held l.rows)) (range l.band.start l.band.«end»))
    (rows_at (frame-of l.screen) (all-held l.rows)) l.list l.clip.start l.clip.«end» l.clip.scene l.i (at-hand l.hand)
