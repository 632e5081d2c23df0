use Rattle.depth.proofs.Groups.{room-missed}
use Rattle.depth.proofs.minima.has_room.Goals as goal

pub returns-else-buckets-minima : goal.returns-else-buckets-minima
returns-else-buckets-minima c = room-missed _ _ c.if-buckets-minima.false
