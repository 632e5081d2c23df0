use Rattle.theorem_border.proofs.Recorded.{recording-accepted, recording-refused, recording-early, reset-asks}
use Rattle.theorem_border.proofs.recordings_at_border.Goals as goal

pub returns-clause-accepted : goal.returns-clause-accepted
returns-clause-accepted c = recording-accepted

pub returns-clause-refused : goal.returns-clause-refused
returns-clause-refused c = recording-refused

pub returns-clause-early : goal.returns-clause-early
returns-clause-early c = recording-early

pub returns-clause-asks : goal.returns-clause-asks
returns-clause-asks c = reset-asks
