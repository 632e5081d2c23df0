use Rattle.row.specs.Row.{held}
use Rattle.row.proofs.WordsLaws.{end-grown}
use Rattle.row.proofs.act.PopRowAct.on.Goals as goal

pub returns-clause-grown : goal.returns-clause-grown
returns-clause-grown c = rw c.pop_buf.ensures.row (end-grown (held c.args.row.now) c.requires.1.state)
