use Rattle.run_editions.proofs.Items.{item-cut}
use Rattle.run_editions.proofs.ConverterReplies.answer.Goals as goal

pub returns-clause-cut : goal.returns-clause-cut
returns-clause-cut g c j x = item-cut c.args.self.now.job x
