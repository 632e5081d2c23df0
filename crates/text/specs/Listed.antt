-- The lines of a screen's words, and what the call that lists them answers.
use Rattle.std.specs.Prelude.{ℕ, ◌+◌, ◌-◌, ◌*◌, ◌≤◌, ◌≡◌, Bool, ◌&&◌, cond, List, [], ◌∷◌, ◌++◌, length, get_or, drop, leb, ltb, eqb}
use Rattle.std.specs.Prelude.{Option, None, Some, Result}
use Rattle.std.specs.Result.{result_unwrap_or}
use Rattle.sizes.specs.declared.answers.Refusal.{Refusal}
use Rattle.sizes.specs.Refusals.{answer_number}
use Rattle.sizes.specs.Sizes.{row-size, renders-at, depths-at}
use Rattle.sizes.specs.Widths.{bucket-tiles}
use Rattle.rules.specs.Lists.{join}
use Rattle.rules.specs.Answers.{Done, BadRecord, NoRoom}
use Rattle.rules.specs.Boxes.{rows_of, buckets-of}
use Rattle.rules.specs.Commands.{Command, DepthFill}
use Rattle.cmd.specs.Reading.{command_of, depth_fill_of}
use Rattle.rules.specs.Lines.{Line, header, row, refused, depth-line, command-line, line-bytes}
use Rattle.rect.specs.Rects.{box_of}
use Rattle.row.specs.Words.{Words, word}
use Rattle.row.specs.Arena.{Sizes, sizes, row_at}
use Rattle.screen.specs.declared.Screen.{Screen}
use Rattle.screen.specs.Judging.{judged}
use Rattle.text.specs.Places.{all-below, joined, is_some}

-- the depth fill at place k, in a row of n buckets, and the command at place k, if words stand for them
abbrev pub depth-fill-at : ℕ → List ℕ → ℕ → Option DepthFill
depth-fill-at n ws k = depth_fill_of n (get_or ws (2 * k) 0) (get_or ws (2 * k + 1) 0)

abbrev pub command-at : List ℕ → ℕ → Option Command
command-at ws k = command_of (get_or ws (4 * k) 0) (get_or ws (4 * k + 1) 0) (get_or ws (4 * k + 2) 0) (get_or ws (4 * k + 3) 0)

-- the line of what words stand for
abbrev pub shown : {A : Type 0} → (A → Line) → Option A → List Line
shown f None = []
shown f (Some x) = f x ∷ []

-- the first k depth fills, and the first k commands
abbrev pub depth-lines : ℕ → List ℕ → ℕ → List Line
depth-lines n ws k = joined (λ (i : ℕ). shown depth-line (depth-fill-at n ws i)) k

abbrev pub command-lines : List ℕ → ℕ → List Line
command-lines ws k = joined (λ (i : ℕ). shown command-line (command-at ws i)) k

-- row r, of n buckets: its counts, its depth fills, its commands
unfoldable pub row-lines : ℕ → ℕ → Words → List Line
row-lines n r w = row r (word depths-at w) (word renders-at w) ∷ (depth-lines n w.fills (word depths-at w) ++ command-lines w.render (word renders-at w))

-- the first m rows of a screen's words
abbrev pub rows-lines : Sizes → ℕ → Words → ℕ → List Line
rows-lines k n w m = joined (λ (r : ℕ). row-lines n r (row_at k r w)) m

unfoldable pub screen-lines : Screen → Words → List Line
screen-lines s w =
    let n = buckets-of (bucket-tiles s.width) (box_of s.viewport) in
    let m = rows_of (box_of s.viewport) in
    header m n (s.next_draw_id - 1) ∷ rows-lines (sizes s.c s.d) n w m

-- their bytes
unfoldable pub text_of : List Line → List ℕ
text_of ls = join line-bytes ls

-- Answer 4: counts within C and D, and each depth fill and command one that words stand for.
abbrev pub good-depths : ℕ → List ℕ → ℕ → Bool
good-depths n ws k = all-below (λ (i : ℕ). is_some (depth-fill-at n ws i)) k

abbrev pub good-commands : List ℕ → ℕ → Bool
good-commands ws k = all-below (λ (i : ℕ). is_some (command-at ws i)) k

unfoldable pub good_row : ℕ → ℕ → ℕ → Words → Bool
good_row c d n w =
    leb (word renders-at w) c && (leb (word depths-at w) d && (good-depths n w.fills (word depths-at w) && good-commands w.render (word renders-at w)))

abbrev pub good-rows : ℕ → ℕ → ℕ → Words → ℕ → Bool
good-rows c d n w m = all-below (λ (r : ℕ). good_row c d n (row_at (sizes c d) r w)) m

-- A line has at most 64 bytes, a row at most a line for itself and for each of C commands and D depth fills.
abbrev pub row_room : ℕ → ℕ → ℕ
row_room c d = 64 * (1 + (c + d))

-- what a screen's text has at most
abbrev pub screen-room : Screen → ℕ
screen-room s = 64 + rows_of (box_of s.viewport) * row_room s.c s.d

-- what the screen and the lent lengths say (2, 1, 4), then 4 for a row
unfoldable pub list-number : Screen → Words → ℕ
list-number s w =
    let first = judged s (length w.state) (length w.render) (length w.fills) in
    let good = good-rows s.c s.d (buckets-of (bucket-tiles s.width) (box_of s.viewport)) w (rows_of (box_of s.viewport)) in
    cond (eqb first Done) (cond good Done BadRecord) first

-- the number of an answer, and how many bytes are written: none where it is refused
pub record Listing : Type 0 where
  pub number : ℕ
  pub bytes : ℕ

-- what a call leaves: its answer, and the lent bytes
pub record TextOut : Type 0 where
  pub answer : Listing
  pub bytes : List ℕ

abbrev pub listing : ℕ → ℕ → Listing
listing n k = record { number = n; bytes = k }

abbrev pub text-out : Listing → List ℕ → TextOut
text-out r bs = record { answer = r; bytes = bs }

abbrev pub listing_of : Result ℕ Refusal → Listing
listing_of r = listing (answer_number r) (result_unwrap_or r 0)

abbrev pub left : Result ℕ Refusal → List ℕ → TextOut
left r bs = text-out (listing_of r) bs

-- the text stands first, what was after it stays
abbrev pub begun-with : List ℕ → List ℕ → TextOut
begun-with ts bs = text-out (listing Done (length ts)) (ts ++ drop (length ts) bs)

-- 14 for a text that is longer than the bytes
unfoldable pub written : List ℕ → List ℕ → TextOut
written ts bs = cond (ltb (length bs) (length ts)) (text-out (listing NoRoom 0) bs) (begun-with ts bs)

unfoldable pub listed : Screen → Words → List ℕ → TextOut
listed s w bs =
    let n = list-number s w in
    cond (eqb n Done) (written (text_of (screen-lines s w)) bs) (text-out (listing n 0) bs)

-- the line of a refusal
abbrev pub refused-listed : ℕ → List ℕ → TextOut
refused-listed n bs = written (line-bytes (refused n)) bs

-- a row's counts within C and D
pub record Few (c d : ℕ) (w : Words) : Type 0 where
  pub commands : word renders-at w ≤ c
  pub depths : word depths-at w ≤ d

-- a row with its counted commands and depth fills
pub record ListedRow (w : Words) : Type 0 where
  pub state : length w.state ≡ row-size
  pub commands : 4 * word renders-at w ≤ length w.render
  pub depths : 2 * word depths-at w ≤ length w.fills
