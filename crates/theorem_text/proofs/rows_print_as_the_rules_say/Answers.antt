use Rattle.theorem_text.proofs.Printed.{held-listed, reached-listed, words-text, file-text, words-left}
use Rattle.text.proofs.FileTexts.{exact-same}
use Rattle.theorem_text.proofs.rows_print_as_the_rules_say.Goals as goal

pub returns-clause-held : goal.returns-clause-held
returns-clause-held c = held-listed

pub returns-clause-reached : goal.returns-clause-reached
returns-clause-reached c = reached-listed

pub returns-clause-words : goal.returns-clause-words
returns-clause-words c = words-text

pub returns-clause-files : goal.returns-clause-files
returns-clause-files c = file-text

pub returns-clause-untold : goal.returns-clause-untold
returns-clause-untold c = λ z t u h g ws q bs. exact-same t u h g ws q bs

pub returns-clause-left : goal.returns-clause-left
returns-clause-left c = words-left
