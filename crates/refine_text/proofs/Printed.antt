-- The lines of a built screen's words are the rules' lines of the screen, and listing it is never refused for a record. Assumes nothing.
use Rattle.std.proofs.Common.{◌≡◌, refl, Bool, true, List, Option, Some, ℕ, zero, suc, ◌≤◌, ◌<◌, arith, length, get_or, le-leb}
use Rattle.rules.specs.Boxes as boxes
use Rattle.rules.specs.Commands.{pop-buf}
use Rattle.rules.specs.Rows.{Row, fresh-row}
use Rattle.rules.specs.Plans.{buckets-across}
use Rattle.rules.specs.Steps.{Screen}
use Rattle.rules.specs.Lines as rules
use Rattle.row.specs.Words.{Words, words}
use Rattle.row.specs.Arena.{sizes, row_at}
use Rattle.screen.specs.Tables.{ScreenLent}
use Rattle.screen.proofs.ScreenLaws.{few-buckets}
use Rattle.refine_steps.specs.Sound.{Sound}
use Rattle.refine_steps.specs.Lent.{screen-of, rows_of, lent_of}
use Rattle.refine_steps.proofs.Judged.{judged-done}
use Rattle.refine_steps.proofs.Refined.{Refines}
use Rattle.refine_paint.specs.Fair.{FairRows}
use Rattle.refine_paint.proofs.Standing.{stands}
use Rattle.refine_paint.proofs.Kept.{own-words}
use Rattle.text.specs.Places.{all-below, is_some}
use Rattle.text.specs.Listed.{depth-fill-at, command-at, screen-lines, good_row, good-rows, list-number, written, text_of, listed}
use Rattle.text.proofs.ByRules.{Stands, no-fill, screen-by-rules}

-- what is there at each place is some
module _ {A : Type 0} (g : ℕ → Option A) (xs : List A) (d : A) (h : (k : ℕ) → k < length xs → g k ≡ Some (get_or xs k d)) where
  all-some : (m : ℕ) → m ≤ length xs → all-below (λ (i : ℕ). is_some (g i)) m ≡ true
  unfolding all-below
  all-some zero p = refl
  all-some (suc m) p = rw (h m (omega arith), all-some m (omega arith))

all_true : (p : ℕ → Bool) (n m : ℕ) → ((k : ℕ) → k < n → p k ≡ true) → m ≤ n → all-below p m ≡ true
unfolding all-below
all_true p n zero h l = refl
all_true p n (suc m) h l = rw (h m (omega arith), all_true p n m h (omega arith))

-- a sound screen with fair rows, as every built screen is
module _ (s : Screen Row) (o : Sound s) (f : FairRows s) where
  abbrev c : ℕ
  c = s.state.frame.c

  abbrev d : ℕ
  d = s.state.frame.d

  abbrev n : ℕ
  n = buckets-across s.state.frame

  -- a row's words stand for the row
  pub row-shown : (i : ℕ) → i < length s.rows → Stands n (get_or s.rows i fresh-row) (row_at (sizes c d) i (rows_of s))
  row-shown i h =
      let g = stands s.state.attrs n c d (omega (arith, few-buckets s.state.frame.viewport o.viewport s.state.frame.width)) (get_or s.rows i fresh-row) (o.rows i) (f i) in
      rw (own-words s i h) (record { renders = g.renders; depths = g.depths; commands-at = g.commands-at; fills-at = g.fills-at })

  -- the lines of the words are the rules' lines
  pub screen-printed : (b : Bool) → screen-lines (screen-of s.state b) (rows_of s) ≡ rules.screen-lines s
  screen-printed b = screen-by-rules (screen-of s.state b) (rows_of s) s.rows o.count row-shown

  row-good : (i : ℕ) → i < length s.rows → good_row c d n (row_at (sizes c d) i (rows_of s)) ≡ true
  unfolding good_row
  row-good i h =
      let r = get_or s.rows i fresh-row in
      let w = row_at (sizes c d) i (rows_of s) in
      let g = row-shown i h in
      rw (
        g.renders,
        g.depths,
        le-leb _ _ (o.rows i).commands,
        le-leb _ _ (o.rows i).fills,
        all-some (depth-fill-at n w.fills) r.fills no-fill g.fills-at (length r.fills) (omega arith),
        all-some (command-at w.render) r.commands pop-buf g.commands-at (length r.commands) (omega arith),
      )

  rows-good : good-rows c d n (rows_of s) (boxes.rows_of s.state.frame.viewport) ≡ true
  rows-good = all_true _ (length s.rows) _ row-good (omega (arith, o.count))

  -- nothing is wrong
  pub number-printed : (b : Bool) → list-number (screen-of s.state b) (rows_of s) ≡ 0
  unfolding list-number
  number-printed b = rw (judged-done s o b, rows-good)

  -- what is listed: the text of the rules' lines, where it fits
  pub listed-printed : (b : Bool) (bs : List ℕ) → listed (screen-of s.state b) (rows_of s) bs ≡ written (text_of (rules.screen-lines s)) bs
  unfolding listed
  listed-printed b bs = rw (number-printed b, screen-printed b)

-- the words of the rows, among all that is lent
abbrev pub row_words : ScreenLent → Words
row_words l = words l.tables.rows l.tables.render l.tables.fills

module _ {s : Screen Row} {l : ScreenLent} (h : Refines s l) (f : FairRows s) where
  -- words that hold a sound screen with fair rows
  pub lines-held : screen-lines l.screen (row_words l) ≡ rules.screen-lines s
  unfolding lent_of
  lines-held = rw h.holds.same (screen-printed s h.sound f h.holds.begun)

  pub listed-held : (bs : List ℕ) → listed l.screen (row_words l) bs ≡ written (text_of (rules.screen-lines s)) bs
  unfolding lent_of
  listed-held bs = rw h.holds.same (listed-printed s h.sound f h.holds.begun bs)
