use Rattle.text.proofs.DetailsLines.{panel-left}
use Rattle.text.proofs.details.print_panel.Goals as goal

pub returns-else-panels : goal.returns-else-panels
returns-else-panels c = panel-left c.args.panels c.args.panel _ c.if-panels.false
