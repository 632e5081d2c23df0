use Rattle.std.proofs.Common.{arith}
use Rattle.text_files.proofs.FewMinima.{few-all}
use Rattle.text_files.proofs.tables.minima_words.Goals as goal

pub overflow_mul-result : goal.overflow_mul-result
overflow_mul-result c =
    let few = few-all _ _ c.requires.high c.requires.wide in rw c.minima_room.ensures (omega (arith, few))

pub returns-clause-few : goal.returns-clause-few
returns-clause-few c = rw c.minima_room.ensures (few-all _ _ c.requires.high c.requires.wide)
