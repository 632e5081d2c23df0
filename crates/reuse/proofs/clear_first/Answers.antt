-- As many as are used and are there.
use Rattle.reuse.proofs.Using.{cleared-first}
use Rattle.reuse.proofs.clear_first.Goals as goal

pub returns : goal.returns
returns g c = cleared-first c.args.zero c.args.used _ _ _ c.min-end.ensures (c.fill.ensures.after c.requires.copies)
