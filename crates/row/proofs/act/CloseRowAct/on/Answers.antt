use Rattle.row.specs.Row.{held}
use Rattle.rules.specs.Commands.{layer-fill}
use Rattle.span.specs.Spans.{tiles}
use Rattle.row.proofs.WordsLaws.{cmd-grown}
use Rattle.row.proofs.act.CloseRowAct.on.Goals as goal

pub returns-clause-grown : goal.returns-clause-grown
returns-clause-grown c =
    let f = c.args.self.fill in
    rw c.push_cmd.ensures.row (cmd-grown (held c.args.row.now) c.requires.1.state (layer-fill (tiles f.span) f.alpha f.attrs_idx))
