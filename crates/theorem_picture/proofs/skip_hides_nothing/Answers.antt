use Rattle.rules_picture.proofs.Skip as rules
use Rattle.rules_picture.proofs.Skip.{finished-fills}
use Rattle.theorem_picture.proofs.Skip.{skip, skip-buckets, skip-runs}
use Rattle.theorem_picture.proofs.skip_hides_nothing.Goals as goal

pub returns-clause-by_rules : goal.returns-clause-by_rules
returns-clause-by_rules c = rules.skip

pub returns-clause-by_words : goal.returns-clause-by_words
returns-clause-by_words c = λ f xs l reached. skip reached

pub returns-clause-buckets : goal.returns-clause-buckets
returns-clause-buckets c = skip-buckets

pub returns-clause-runs : goal.returns-clause-runs
returns-clause-runs c = skip-runs

pub returns-clause-fills : goal.returns-clause-fills
returns-clause-fills c = finished-fills
