-- Row r stands where `place_of` says, so the three parts lie within the slices, are row r as they are lent, and come back as row r.
use Rattle.row.proofs.RowsLaws.{lent, roomy, back}
use Rattle.row.proofs.act.on_row.Goals as goal

pub on_words-requires : goal.on_words-requires
on_words-requires g c =
    let o = c.requires.1 in
    let s = c.place_of-p.ensures in
    record { asked = rw (lent o.arenas o.within s) o.asked; room = roomy o.arenas o.within s (g.A.RowAct.made c.args.act) o.room }

pub returns : goal.returns
returns g c n o =
    back o.arenas o.within c.place_of-p.ensures (g.A.RowAct.made c.args.act) _ _ _ (rw c.on_words.ensures.row at c.on_words.ensures.grown) c.on_words.ensures.row
