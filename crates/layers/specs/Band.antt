-- A run of rows: what is judged of their records, and something done on each.
use Rattle.std.specs.Prelude.{ℕ, ◌≤◌, ◌<◌, ◌+◌, ◌-◌, Bool, List, [], ◌∷◌, get_or, ltb}
use Rattle.sizes.specs.Sizes.{renders-at, levels-at}
use Rattle.rules.specs.Lists.{change}
use Rattle.rules.specs.Answers.{Done}
use Rattle.rules.specs.Boxes.{rows_of}
use Rattle.row.specs.Words.{Words, Room}
use Rattle.row.specs.Arena.{nowhere}
use Rattle.row.specs.declared.rows.Rows.{Rows}
use Rattle.row.specs.Rows.{all-held}
use Rattle.row.specs.Building.{rows_at, Whole, good_row}
use Rattle.row.specs.Room.{record-at, rows_told}
use Rattle.rect.specs.Rects.{box_of}
use Rattle.screen.specs.declared.Screen.{Screen}
use Rattle.screen.specs.Screens.{frame-of}

-- one more command, with what the row lacks of n open layers, passes c
abbrev pub is-full : ℕ → ℕ → List ℕ → Bool
is-full c n s = ltb c (get_or s renders-at 0 + (n + 1 - get_or s levels-at 0))

-- the rows rs: 4 for a record, then 10
unfoldable pub band_number : ℕ → ℕ → ℕ → List ℕ → List ℕ → ℕ
band_number c d n ws rs = rows_told (λ (r : ℕ). good_row c d n (record-at ws r)) (λ (r : ℕ). is-full c n (record-at ws r)) Done rs

-- f done on each of the rows rs
unfoldable pub each : (Words → Words) → List ℕ → List Words → List Words
each f [] ws = ws
each f (r ∷ rs) ws = each f rs (change f r ws)

-- the screen's rows, as the slices hold them
abbrev pub screen_rows : Screen → Rows → List Words
screen_rows s r = rows_at (frame-of s) (all-held r)

-- the rows a to b are the screen's, and each has room for what f makes of it
pub record OnRows (s : Screen) (f : Words → Words) (a b : ℕ) (w : Words) : Type 0 where
  pub whole : Whole (frame-of s) w
  pub within : b ≤ rows_of (box_of s.viewport)
  pub room : (i : ℕ) → a ≤ i → i < b → Room (get_or (rows_at (frame-of s) w) i nowhere) (f (get_or (rows_at (frame-of s) w) i nowhere))
