-- The call on a screen and all that is lent with it.
use Rattle.std.specs.Prelude.{ℕ}
use Rattle.rules.specs.Answers.{Answer, answer}
use Rattle.row.specs.Words.{words}
use Rattle.screen.specs.Tables.{tables, ScreenLent, screen_lent}
use Rattle.paint.specs.Stepping.{attributes}
use Rattle.compact.specs.Call.{Stored, stored, compacting}

-- the words with another screen, and other words of its rows
abbrev pub with-stored : ScreenLent → Stored → ScreenLent
with-stored l k =
    let t = l.tables in
    screen_lent k.screen
    (tables k.words.render k.words.fills t.depth k.words.state t.painting t.layers t.opacities t.paint-attrs t.layer-attrs t.filter-paints)

-- `compact_row` of row i
unfoldable pub compact-at : ℕ → ScreenLent → Answer ScreenLent
compact-at i l =
    let t = l.tables in
    let a = compacting i (attributes t.paint-attrs t.layer-attrs) (stored l.screen (words t.rows t.render t.fills)) in
    answer a.number (with-stored l a.value)
