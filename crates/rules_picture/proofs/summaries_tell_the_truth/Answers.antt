-- The summary's laws.
use Rattle.rules_picture.proofs.Minima.{summary-long, hidden-exact, pieces-same}
use Rattle.rules_picture.proofs.Mending.{mended-afresh}
use Rattle.rules_picture.proofs.summaries_tell_the_truth.Goals as goal

pub returns-clause-long : goal.returns-clause-long
returns-clause-long c = summary-long

pub returns-clause-hidden : goal.returns-clause-hidden
returns-clause-hidden c = hidden-exact

pub returns-clause-afresh : goal.returns-clause-afresh
returns-clause-afresh c = mended-afresh

pub returns-clause-pieces : goal.returns-clause-pieces
returns-clause-pieces c = pieces-same
