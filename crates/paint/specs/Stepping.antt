-- A painting step of row r: a function of the row's own words, the attributes' ids and the list.
use Rattle.std.specs.Prelude.{ℕ, ◌+◌, ◌*◌, ◌≤◌, ◌≡◌, cond, List, length, take, drop, eqb}
use borrow.Rule.Slice.PartMut.{put_mid}
use Rattle.sizes.specs.Sizes.{most-room, most-attrs, row-size, paint-attr-table, layer-attr-table}
use Rattle.sizes.specs.Widths.{bucket-tiles}
use Rattle.rules.specs.Answers.{Done}
use Rattle.rules.specs.Minima.{minima-room}
use Rattle.screen.specs.declared.Screen.{Screen}
use Rattle.screen.specs.Depths.{Depths, depths}
use Rattle.paint.specs.Painting.{attrs-at, RowLent, words_lent, StepOut, out, refused, painted-row}
use Rattle.paint.specs.Judging.{wide, arenas-long, tables-long, step_number}

-- row r's own part, k words a row, and the words with another part there
abbrev pub part : ℕ → ℕ → List ℕ → List ℕ
part k r xs = take k (drop (r * k) xs)

abbrev pub with_part : ℕ → ℕ → List ℕ → List ℕ → List ℕ
with_part k r xs ys = put_mid (r * k) k xs ys

-- .. of the depth words and minima of rows of b buckets
abbrev pub depth-part : ℕ → ℕ → Depths → Depths
depth-part b r d = depths (part b r d.words) (part (minima-room b) r d.minima)

abbrev pub with-depth-part : ℕ → ℕ → Depths → Depths → Depths
with-depth-part b r d o = depths (with_part b r d.words o.words) (with_part (minima-room b) r d.minima o.minima)

-- row r's part lies within the words, and its place is a small number
pub record Within (k r : ℕ) (xs : List ℕ) : Type 0 where
  pub ends : r * k + k ≤ length xs
  pub near : r * k ≤ 2097152
  pub short : k ≤ 4096

-- the attribute tables
pub record Attributes : Type 0 where
  pub paints : List ℕ
  pub layers : List ℕ

abbrev pub attributes : List ℕ → List ℕ → Attributes
attributes ps ls = record { paints = ps; layers = ls }

-- rows of b buckets, with room for c commands and d depth fills: the words of row r, and the whole list
abbrev pub own-parts : ℕ → ℕ → ℕ → ℕ → RowLent → RowLent
own-parts b c d r l =
    words_lent (part row-size r l.state) (part (4 * c) r l.render) (part (2 * d) r l.fills) (depth-part b r l.depth) (part 2 r l.painting) l.list

-- what steps over the row's own depth words and minima leave of all of them
abbrev pub put-depth : ℕ → ℕ → Depths → StepOut → StepOut
put-depth b r d o = out o.answer (with-depth-part b r d o.depth) o.painting o.list

-- .. and what its step leaves, in its place
abbrev pub put-parts : ℕ → ℕ → RowLent → StepOut → StepOut
put-parts b r l o = out o.answer (with-depth-part b r l.depth o.depth) (with_part 2 r l.painting o.painting) o.list

-- .. on a screen
abbrev pub own : Screen → ℕ → RowLent → RowLent
own s r l = own-parts (wide s) s.c s.d r l

abbrev pub in_place : Screen → ℕ → RowLent → StepOut → StepOut
in_place s r l o = put-parts (wide s) r l o

abbrev pub number : Screen → ℕ → Attributes → RowLent → ℕ
number s r a l =
    step_number s r (arenas-long s (length l.render) (length l.fills) (length l.depth.words) (length l.depth.minima))
    (tables-long s (length l.state) (length l.painting) (length a.paints) (length a.layers))

-- what a step of row r of such rows needs, with p paints and m layers in the tables; a call that is judged 0 has it
pub record StepReady (b c d p m r : ℕ) (a : Attributes) (l : RowLent) : Type 0 where
  pub state : Within row-size r l.state
  pub render : Within (4 * c) r l.render
  pub fills : Within (2 * d) r l.fills
  pub depth : Within b r l.depth.words
  pub minima : Within (minima-room b) r l.depth.minima
  pub painting : Within 2 r l.painting
  pub few-commands : c ≤ most-room
  pub few-fills : d ≤ most-room
  pub paint-table : length a.paints ≡ paint-attr-table
  pub layer-table : length a.layers ≡ layer-attr-table
  pub paints : p ≤ most-attrs
  pub layers : m ≤ most-attrs

unfoldable pub row_step : Screen → ℕ → Attributes → RowLent → StepOut
row_step s r a l =
    in_place s r l (painted-row (bucket-tiles s.width) (attrs-at a.paints s.paint_attrs a.layers s.layer_attrs) (own s r l))

-- the call: refused, or the step of the row
unfoldable pub stepped : Screen → ℕ → Attributes → RowLent → StepOut
stepped s r a l =
    let n = number s r a l in
    let o = row_step s r a l in
    cond (eqb n Done) o (out (refused n) l.depth l.painting l.list)
