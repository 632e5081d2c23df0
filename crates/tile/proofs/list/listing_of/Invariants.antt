-- Of the first i lines it is found what is listed.
use Rattle.tile.proofs.Listing.{ListedTo}
use Rattle.tile.proofs.list.listing_of.Given as goal

abbrev pub invariant-loop-i : goal.invariant-loop-i
invariant-loop-i l = ListedTo l.lines l.i l.listing.from l.listing.count
