use Rattle.convert.proofs.Parsing.{written-parsed, parsed-written}
use Rattle.convert.proofs.sections_are_their_words.Goals as goal

pub returns-clause-written : goal.returns-clause-written
returns-clause-written c = written-parsed

pub returns-clause-parsed : goal.returns-clause-parsed
returns-clause-parsed c = parsed-written
