-- The entries of the lines before line i that are told stand at the list's start.
use Rattle.tile.proofs.Putting.{PutTo}
use Rattle.tile.proofs.list.put_entries.Given as goal

abbrev pub invariant-loop-i : goal.invariant-loop-i
invariant-loop-i l = PutTo l.lines l.tile l.from l.fn.list l.i l.k l.list
