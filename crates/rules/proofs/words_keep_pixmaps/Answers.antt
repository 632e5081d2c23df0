use Rattle.rules.proofs.laws.Pixmaps.{read_back, written_back}
use Rattle.rules.proofs.words_keep_pixmaps.Goals as goal

pub returns-clause-read : goal.returns-clause-read
returns-clause-read c = read_back

pub returns-clause-written : goal.returns-clause-written
returns-clause-written c = written_back
