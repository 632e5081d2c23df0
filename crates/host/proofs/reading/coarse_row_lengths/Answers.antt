-- Words of no screen's: the call's own number at the words' numbers.
use Rattle.screen.specs.declared.Screen.{Screen}
use Rattle.paint.specs.StoredCmds.{stored_words, lengths-of-row}
use Rattle.host.specs.Reading.{lengths-parts}
use Rattle.host.proofs.RowReads.{read_unheld}
use Rattle.host.proofs.reading.coarse_row_lengths.Goals as goal

pub returns-in_default : goal.returns-in_default
returns-in_default c =
    let a = c.args in
    read_unheld lengths-parts (λ (x : Screen). lengths-of-row x a.row (stored_words a.stored.now)) _ _ _ _ _ _ _ c.in_default.ensures c.screen_at.ensures c.row_lengths.ensures c.before_4.ensures
