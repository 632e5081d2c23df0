-- A row painted on its own words by a host, by the definitions that the contracts of `coarse_paint_own_row` and `coarse_paint_row` cite.
use Rattle.std.specs.Prelude.{ℕ, ◌≡◌, ◌<◌, true, List, length}
use Rattle.rules.specs.Answers.{Answer, answer}
use Rattle.screen.specs.declared.Screen.{Screen}
use Rattle.screen.specs.Depths.{Depths}
use Rattle.paint.specs.Judging.{count, wide, arenas-long, tables-long}
use Rattle.paint.specs.Painting.{RowLent}
use Rattle.paint.specs.Stepping.{Attributes, with_part, with-depth-part, own}
use Rattle.host.specs.State.{screen-at}
use Rattle.host.specs.Painting.{row_call, own_row_call}

-- what such a call leaves of row r's words, in their place
abbrev pub placed : Screen → ℕ → RowLent → Answer (Depths × List ℕ × List ℕ × List ℕ) → Answer (Depths × List ℕ × List ℕ × List ℕ)
placed s r l a =
    answer a.number (with-depth-part (wide s) r l.depth a.value.0, with_part 2 r l.painting a.value.1, a.value.2, a.value.3)

-- Whatever the state's words are, of each row of the screen that they would be, all the words having their lengths, the call for the row is the call on the
-- row's own words.
abbrev pub OwnRowHosted : Type 0
OwnRowHosted =
    (r : ℕ) (a : Attributes) (st : List ℕ) (l : RowLent) (res : List ℕ) → let s = screen-at st in r < count s
    → arenas-long s (length l.render) (length l.fills) (length l.depth.words) (length l.depth.minima) ≡ true
    → tables-long s (length l.state) (length l.painting) (length a.paints) (length a.layers) ≡ true
    → row_call r a st l res ≡ placed s r l (own_row_call a st (own s r l) res)
