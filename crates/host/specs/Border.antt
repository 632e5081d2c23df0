-- What a reset says of its frame and the four arenas (2, 1 or 0), and a recording file before its records are looked at.
use Rattle.std.specs.Prelude.{ℕ, not, List, [], ◌∷◌, length}
use Rattle.std.specs.Prelude.{Option, None, Some}
use Rattle.sizes.specs.declared.answers.Refusal.{Refusal}
use Rattle.sizes.specs.Refusals.{number_of}
use Rattle.rules.specs.Answers.{first_of, BadArena, BadViewport, BadForm}
use Rattle.rules.specs.Boxes.{good_viewport}
use Rattle.rules.specs.Plans.{Frame}
use Rattle.rules.specs.Setups.{Setup, frame}
use Rattle.rules.specs.Recording.{File, parsed, recording}
use Rattle.rules.specs.Walk.{Arenas, good-arenas}
use Rattle.screen.specs.declared.lent.Lent.{Lent}
use Rattle.row.specs.declared.Rows.{Rows}
use Rattle.screen.specs.declared.Screen.{Screen}
use Rattle.screen.specs.Judging.{arenas, judged}
use Rattle.paint.specs.declared.canvas.stored.Stored.{Stored}
use Rattle.paint.specs.Judging.{arenas-long, tables-long, step_number}
use Rattle.paint.specs.OwnRow.{own-arenas-long, own-tables-long, own_number}
use Rattle.screen.specs.Lent.{tables_in}
use Rattle.screen.specs.Tables.{lengths}

-- how much is lent of the arenas
abbrev pub arenas-in : Lent → Arenas
arenas-in l = arenas (lengths (tables_in l))

unfoldable pub arenas_number : Frame → Arenas → ℕ
arenas_number f a =
    first_of ((not (good_viewport f.viewport), BadViewport) ∷ (not (good-arenas f a), BadArena) ∷ [])

abbrev pub in-sections : Option (List (List (List ℕ))) → Setup → Arenas → ℕ
in-sections None q a = BadForm
in-sections (Some ss) q a = arenas_number (frame q (recording ss).viewport) a

unfoldable pub file_number : File → Setup → Arenas → ℕ
file_number f = in-sections (parsed f)

-- a file whose setup's words are refused: its form comes first, and there is no viewport to judge
abbrev pub unasked : Option (List (List (List ℕ))) → Refusal → ℕ
unasked None r = BadForm
unasked (Some ss) r = number_of r

unfoldable pub unasked_number : File → Refusal → ℕ
unasked_number f = unasked (parsed f)

-- what the judges of a building step and of a painting step say of a screen, by the lengths that are lent
abbrev pub rows-judged : Rows → Screen → ℕ
rows-judged w s = judged s (length w.state.now) (length w.render_cmds.now) (length w.depth_cmds.now)

abbrev pub step-judged : Stored → ℕ → ℕ → ℕ → ℕ → Screen → ℕ
step-judged t row depth minima painting s =
    step_number s row (arenas-long s (length t.render_cmds.now) (length t.depth_cmds.now) depth minima)
    (tables-long s (length t.rows.now) painting (length t.paint_attrs.now) (length t.layer_attrs.now))

-- .. and of a row painted on its own words
abbrev pub own-judged : Stored → ℕ → ℕ → ℕ → Screen → ℕ
own-judged t depth minima painting s =
    own_number s (own-arenas-long s (length t.render_cmds.now) (length t.depth_cmds.now) depth minima)
    (own-tables-long (length t.rows.now) painting (length t.paint_attrs.now) (length t.layer_attrs.now))
