use Rattle.std.proofs.Common.{refl}
use Rattle.text.proofs.Leaving.{length-measured}
use Rattle.text.proofs.listing.length_of.Goals as goal

pub returns : goal.returns
returns g c = length-measured _ c.print.ensures c.requires.below refl
