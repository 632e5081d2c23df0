-- Words of no screen's: the call's own number at the words' numbers.
use Rattle.screen.specs.declared.Screen.{Screen}
use Rattle.paint.specs.StoredCmds.{progress-of-row}
use Rattle.host.specs.Reading.{gone-parts}
use Rattle.host.proofs.RowReads.{read_unheld}
use Rattle.host.proofs.reading.coarse_progress.Goals as goal

pub returns-in_default : goal.returns-in_default
returns-in_default c =
    let a = c.args in
    read_unheld gone-parts (λ (x : Screen). progress-of-row x a.row a.canvas.now.painting.now) _ _ _ _ _ _ _ c.in_default.ensures c.screen_at.ensures c.row_progress.ensures c.before_4.ensures
