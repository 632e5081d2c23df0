use Rattle.rules_picture.proofs.Places.{attributes-placed}
use Rattle.rules_picture.proofs.attributes_keep_their_places.Goals as goal

pub returns : goal.returns
returns c = attributes-placed
