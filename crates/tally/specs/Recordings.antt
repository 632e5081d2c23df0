-- One recording of a list: bucketed into the first words of each table, and counted.
use Rattle.std.specs.Prelude.{cond, eqb}
use Rattle.rules.specs.Answers.{Answer, Done}
use Rattle.rules.specs.Recording.{File}
use Rattle.rules.specs.Setups.{Setup}
use Rattle.rules_figures.specs.Figures.{Figures, one-refused}
use Rattle.row.specs.Words.{words}
use Rattle.screen.specs.Tables.{ScreenLent, screen_lent}
use Rattle.paint.specs.Stepping.{attributes}
use Rattle.walk.specs.Recorded.{recorded}
use Rattle.tally.specs.Parts.{needed-words, cut, put-over}
use Rattle.tally.specs.Rows.{screen-tallied}

-- what a call answers: refused, or the figures of the screen that it leaves
abbrev pub screen-of : ScreenLent → Figures
screen-of l =
    let t = l.tables in
    screen-tallied l.screen (words t.rows t.render t.fills) (attributes t.paint-attrs t.layer-attrs)

abbrev pub answered : Answer ScreenLent → Figures
answered a = cond (eqb a.number Done) (screen-of a.value) one-refused

-- a recording bucketed into the first words
unfoldable pub bucketed : File → Setup → ScreenLent → Answer ScreenLent
bucketed f q l = recorded f q (screen_lent l.screen (cut (needed-words f q) l.tables))

-- its figures, and what it leaves of all words
abbrev pub recorded-figures : File → Setup → ScreenLent → Figures
recorded-figures f q l = answered (bucketed f q l)

abbrev pub recorded-left : File → Setup → ScreenLent → ScreenLent
recorded-left f q l = let a = (bucketed f q l).value in screen_lent a.screen (put-over (needed-words f q) a.tables l.tables)
