use Rattle.std.proofs.Common.{rules}
use Rattle.pop.proofs.Rooms.{long_after}
use Rattle.pop.proofs.Doing.{whole, b-bottom, pop-requires, pop-done}
use Rattle.pop.proofs.do_rows.Goals as goal

pub pop_rows-requires : goal.pop_rows-requires
pop_rows-requires c =
    let j = c.requires.judged in
    let k = c.requires.closing in
    let long = long_after _ _ _ (whole j) (search rules) (search rules) (search rules) in record { whole = long; band = b-bottom j _ k.layer _ _ k.first k.last; room = pop-requires j _ k.layer _ _ k.first k.last _ long c.close_rows.ensures.rows }

pub returns-clause-rows : goal.returns-clause-rows
returns-clause-rows c =
    let j = c.requires.judged in
    let k = c.requires.closing in
    pop-done j _ k.layer _ _ k.first k.last _
    (long_after _ _ _ (whole j) (search rules) (search rules) (search rules)) c.close_rows.ensures.rows _
    (long_after _ _ _ (whole j) (search rules) (search rules) (search rules)) c.pop_rows.ensures.rows
