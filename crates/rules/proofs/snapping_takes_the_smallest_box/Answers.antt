use Rattle.rules.proofs.laws.Snapping.{snapped-smallest, modes-same, exact-snapped, far-refused}
use Rattle.rules.proofs.snapping_takes_the_smallest_box.Goals as goal

pub returns-clause-smallest : goal.returns-clause-smallest
returns-clause-smallest c = snapped-smallest

pub returns-clause-same : goal.returns-clause-same
returns-clause-same c = modes-same

pub returns-clause-exact : goal.returns-clause-exact
returns-clause-exact c = exact-snapped

pub returns-clause-far : goal.returns-clause-far
returns-clause-far c = far-refused
