use Rattle.text_programs.specs.Arguments.{wanted_of}
use Rattle.run_rowdump.proofs.Printing.{recording-cut}
use Rattle.run_rowdump.proofs.DumpReplies.answer.Goals as goal

pub returns-clause-cut : goal.returns-clause-cut
returns-clause-cut g c j x = let want = wanted_of c.args.self.now.want in recording-cut want.panels want.reading j x.file
