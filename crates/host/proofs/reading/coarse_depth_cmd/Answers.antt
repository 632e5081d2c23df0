-- Words of no screen's: the call's own number at the words' numbers.
use Rattle.screen.specs.declared.Screen.{Screen}
use Rattle.paint.specs.StoredCmds.{stored_words, depth-of-row}
use Rattle.host.specs.Reading.{of-some, depth-parts}
use Rattle.host.proofs.RowReads.{read_unheld}
use Rattle.host.proofs.reading.coarse_depth_cmd.Goals as goal

pub returns-in_default : goal.returns-in_default
returns-in_default c =
    let a = c.args in
    read_unheld (of-some depth-parts) (λ (x : Screen). depth-of-row x a.row (stored_words a.stored.now) a.number) _ _ _ _ _ _ _ c.in_default.ensures c.screen_at.ensures c.depth_cmd.ensures c.before_4.ensures
