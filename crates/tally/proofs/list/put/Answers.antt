use Rattle.std.proofs.Common.{[], ◌∷◌, arith}
use Rattle.cmd.proofs.Tables.{stored}
use Rattle.tally.proofs.list.put.Goals as goal

pub returns : goal.returns
returns c =
    let f = c.args.figures in
    rw (stored c.args.table.now c.args.at f.asked (f.painted ∷ f.hidden ∷ f.commands ∷ f.fills ∷ f.refused ∷ []) (omega arith))
