-- The words that a row and a screen are printed from.
use Rattle.row.specs.Words.{Words, words}
use Rattle.text.specs.declared.rows.RowText.{RowText}
use Rattle.text.specs.declared.listing.ScreenText.{ScreenText}

abbrev pub row_words : RowText → Words
row_words r = words r.state.now r.render_cmds.now r.depth_cmds.now

abbrev pub screen_words : ScreenText → Words
screen_words s = words s.state.now s.render_cmds.now s.depth_cmds.now
