use Rattle.theorem_editions.proofs.Alike.{same-call, same-reason}
use Rattle.theorem_editions.proofs.converted_files_are_played_alike.Goals as goal

pub returns-clause-call : goal.returns-clause-call
returns-clause-call c = same-call

pub returns-clause-reason : goal.returns-clause-reason
returns-clause-reason c = same-reason
