use mathlib.Core.Path.{sym}
use Rattle.file.proofs.Heldness.{paint_count}
use Rattle.file.proofs.recording.Recording.paint_count.Goals as goal

pub returns-clause-same : goal.returns-clause-same
returns-clause-same c = sym (paint_count c.args.self.now.layout c.args.self.now.words.now)
