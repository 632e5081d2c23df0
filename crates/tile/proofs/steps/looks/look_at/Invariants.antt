-- So far: what the segments before i are to the tile; the rest of the list makes of it what the whole list makes.
use Rattle.rect.specs.Rects.{box_of}
use Rattle.tile.specs.Places.{look-of}
use Rattle.tile.proofs.Looking.{Looking}
use Rattle.tile.proofs.steps.looks.look_at.Given as goal

abbrev pub invariant-loop-i : goal.invariant-loop-i
invariant-loop-i l =
    Looking l.spot.width (box_of l.spot.viewport) (box_of l.clip) l.spot.row l.spot.tile l.list l.start l.end (look-of l.look) l.i
