-- A recording call at a screen and all its words: the file's form, the reset, the records, the walk (rule 2).
use Rattle.std.specs.Prelude.{ℕ, cond, List, eqb}
use Rattle.std.specs.Prelude.{Option, None, Some}
use Rattle.rules.specs.Answers.{Answer, answer, Done, BadForm}
use Rattle.rules.specs.Setups.{Setup, frame}
use Rattle.rules.specs.Recording.{Recording, File, parsed, recording}
use Rattle.rules.specs.Walk.{◌then◌, walk-all}
use Rattle.screen.specs.Tables.{ScreenLent, reset_to}
use Rattle.file.specs.Judging.{judged}
use Rattle.walk.specs.Steps.{call_at}

-- answer 4, then 5: nothing changes here
abbrev pub judging : Recording → ScreenLent → Answer ScreenLent
judging r l = answer (judged r) l

-- all records are judged, even those out of reach, then walked
abbrev pub played-once : Recording → ScreenLent → Answer ScreenLent
played-once r = judging r then walk-all ScreenLent call_at r

-- after a refusal the screen is left as it was after the reset
abbrev pub or-fresh : ScreenLent → Answer ScreenLent → Answer ScreenLent
or-fresh fresh a = cond (eqb a.number Done) a (answer a.number fresh)

unfoldable pub played : Recording → ScreenLent → Answer ScreenLent
played r fresh = or-fresh fresh (played-once r fresh)

-- the frame of the file's viewport; a refused reset changes nothing
unfoldable pub recorded-in : Recording → Setup → ScreenLent → Answer ScreenLent
recorded-in r q = reset_to (frame q r.viewport) then played r

abbrev pub of-sections : Option (List (List (List ℕ))) → Setup → ScreenLent → Answer ScreenLent
of-sections None q l = answer BadForm l
of-sections (Some ss) q l = recorded-in (recording ss) q l

-- a file, and what the screen is asked to be; 3 before all
unfoldable pub recorded : File → Setup → ScreenLent → Answer ScreenLent
recorded f = of-sections (parsed f)
