use Rattle.theorem_text.proofs.Attrs.{attrs-printed, details-parts, rows-parts}
use Rattle.theorem_text.proofs.Printed.{words-below, played-ended}
use Rattle.theorem_text.proofs.details_print_as_the_rules_say.Goals as goal

pub returns-clause-words : goal.returns-clause-words
returns-clause-words c = words-below

pub returns-clause-ended : goal.returns-clause-ended
returns-clause-ended c = played-ended

pub returns-clause-attrs : goal.returns-clause-attrs
returns-clause-attrs c = attrs-printed

pub returns-clause-parts : goal.returns-clause-parts
returns-clause-parts c = details-parts

pub returns-clause-rows : goal.returns-clause-rows
returns-clause-rows c = rows-parts
