-- The figures of recordings: each played on its own, by its file.
use Rattle.std.specs.Prelude.{ℕ, cond, List, eqb}
use Rattle.std.specs.Prelude.{Option, None, Some}
use Rattle.rules.specs.Answers.{Answer, Done}
use Rattle.rules.specs.Rows.{Row, fresh-row}
use Rattle.rules.specs.Steps.{Screen, reset}
use Rattle.rules.specs.Recording.{Recording, File, parsed, recording}
use Rattle.rules.specs.Walk.{Place, frame-of}
use Rattle.rules.specs.Lines as rule
use Rattle.rules_picture.specs.Recorded.{played, history}
use Rattle.rules_figures.specs.Figures.{Figures, one-refused, figures}

-- of a recording and what playing it answers: those of its history and of the screen that it leaves
abbrev pub of-answer : Place → Recording → Answer (Screen Row) → Figures
of-answer p r a = cond (eqb a.number Done) (figures (frame-of p r) (history p r) a.value) one-refused

abbrev pub of-sections : Place → File → Option (List (List (List ℕ))) → Figures
of-sections p f None = one-refused
of-sections p f (Some ss) = of-answer p (recording ss) (played p (reset fresh-row rule.nothing) f)

-- of a file that is played in the place p
unfoldable pub of-file : Place → File → Figures
of-file p f = of-sections p f (parsed f)
