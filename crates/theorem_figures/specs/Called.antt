-- The call over a list of recordings: what it puts into the table, and what it leaves.
use Rattle.std.specs.Prelude.{ℕ, ◌≡◌, ◌≤◌, List, length, take, drop}
use Rattle.rules.specs.Answers.{Done}
use Rattle.rules.specs.Setups.{Setup}
use Rattle.rules_figures.specs.Figures.{Figures, table}
use Rattle.rules_figures.specs.Accounted.{most-recordings}
use Rattle.tally.specs.Listed.{Listed, files-in, desk, figured}
use Rattle.screen.specs.Tables.{ScreenLent}
use Rattle.theorem_figures.specs.Listed.{lines, left-by}

-- the lines of a call's recordings
abbrev pub lines-of : Listed → Setup → ScreenLent → List Figures
lines-of l q k = lines q (files-in l) k

-- done: the table begins with the lines and the totals, of no more recordings than a list has; the screen and the words are left as the last recording leaves them
pub record Told (l : Listed) (q : Setup) (k : ScreenLent) (t : List ℕ) : Type 0 where
  pub few : length (files-in l) ≤ most-recordings
  pub told : take (length (table (lines-of l q k))) (figured l q k t).value.table ≡ table (lines-of l q k)
  pub rest : drop (length (table (lines-of l q k))) (figured l q k t).value.table ≡ drop (length (table (lines-of l q k))) t
  pub left : (figured l q k t).value.left ≡ left-by q (files-in l) k

abbrev pub Call-told : Type 0
Call-told = (l : Listed) (q : Setup) (k : ScreenLent) (t : List ℕ) → (figured l q k t).number ≡ Done → Told l q k t

-- refused: nothing changes
abbrev pub Call-kept : Type 0
Call-kept = (l : Listed) (q : Setup) (k : ScreenLent) (t : List ℕ) → ((figured l q k t).number ≡ Done → ⊥) → (figured l q k t).value ≡ desk k t
