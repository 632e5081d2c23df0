use Rattle.rules_picture.proofs.Picture as rules
use Rattle.rules_picture.proofs.Picture.{row-picture, all_shown}
use Rattle.rules_picture.proofs.Turns.{begun-said, finished-gave}
use Rattle.theorem_picture.proofs.Picture.{picture}
use Rattle.theorem_picture.proofs.Rows.{rows-picture}
use Rattle.theorem_picture.proofs.each_tile_receives_draw_order.Goals as goal

pub returns-clause-by_rules : goal.returns-clause-by_rules
returns-clause-by_rules c = rules.picture

pub returns-clause-by_words : goal.returns-clause-by_words
returns-clause-by_words c = picture

pub returns-clause-by_rows : goal.returns-clause-by_rows
returns-clause-by_rows c = rows-picture

pub returns-clause-alone : goal.returns-clause-alone
returns-clause-alone c = λ f xs u b r t n h on. row-picture f xs u b r t n h on

pub returns-clause-finished : goal.returns-clause-finished
returns-clause-finished c = finished-gave

pub returns-clause-said : goal.returns-clause-said
returns-clause-said c = begun-said

pub returns-clause-unhidden : goal.returns-clause-unhidden
returns-clause-unhidden c = all_shown
