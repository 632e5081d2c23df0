-- One row as words, and the rules' row operations on them. A store past the end does nothing and the counts go on, so each operation
-- is total: what it gives is what is done without limits.
-- state: 0 render count, 1 fill count, 2 the union's first tile, 3 its end, 4 the largest id, 5 levels;
-- then for level k from 1 to 16, at 3 + 3k: the place of its PushBuf, and the tag and the span word that its pop will store.
use Rattle.std.specs.Prelude.{ℕ, ◌≤◌, ◌<◌, ◌+◌, ◌-◌, ◌*◌, ◌/◌, ◌%◌, min, max, ◌≡◌, cond, List, get_or, set, length, eqb}
use Rattle.std.specs.Prelude.{Option, None, Some}
use Rattle.sizes.specs.Sizes.{most-layers, most-room, row-size, renders-at, depths-at, first-at, end-at, largest-at, levels-at, level-at}
use Rattle.rules.specs.Spans.{Span}
use Rattle.rules.specs.Commands.{Command, command_words, DepthFill, depth-words}
use Rattle.rules.specs.Depth.{tiles-of}
use Rattle.rules.specs.Rows.{RowOps, adds}
pub use Rattle.cmd.specs.Commands.{put4}

-- the words of one row, or of all the rows of a screen
pub record Words : Type 0 where
  pub state : List ℕ
  pub render : List ℕ
  pub fills : List ℕ

abbrev pub words : List ℕ → List ℕ → List ℕ → Words
words s r f = record { state = s; render = r; fills = f }

abbrev pub word : ℕ → Words → ℕ
word i w = get_or w.state i 0

-- the span word of a union with the span f to e; only the tag 6 says that there is a union already
unfoldable pub hull_word : ℕ → ℕ → ℕ → ℕ → ℕ
hull_word tag s f e = cond (eqb tag 6) (min (s / 65536) f * 65536 + max (s % 65536) e) (f * 65536 + e)

-- the level whose words stand at a, its union widened
abbrev pub widened : ℕ → ℕ → ℕ → List ℕ → List ℕ
widened a f e s = set (set s (a + 1) 6) (a + 2) (hull_word (get_or s (a + 1) 0) (get_or s (a + 2) 0) f e)

-- rule 10: the span f to e counts for the innermost level
unfoldable pub include_span : ℕ → ℕ → List ℕ → List ℕ
include_span f e s = cond (eqb (get_or s levels-at 0) 0) s (widened (level-at (get_or s levels-at 0)) f e s)

-- what a command adds to the union at its level
abbrev pub include-adds : Option Span → List ℕ → List ℕ
include-adds None l = l
include-adds (Some s) l = include_span s.first s.end l

-- a command, by its four words
unfoldable pub put_command : Command → Words → Words
put_command c w =
    let ws = command_words c in
    words (set (include-adds (adds c) w.state) renders-at (word renders-at w + 1))
    (put4 w.render (word renders-at w) (get_or ws 0 0) (get_or ws 1 0) (get_or ws 2 0) (get_or ws 3 0)) w.fills

-- rule 5: a PushBuf, with no span yet, and one more level
unfoldable pub put_buf : Words → Words
put_buf w =
    let n = word renders-at w in
    let k = word levels-at w + 1 in
    let a = level-at k in
    words (set (set (set (set (set w.state a n) (a + 1) 5) (a + 2) 0) levels-at k) renders-at (n + 1)) (put4 w.render n 5 0 0 0) w.fills

-- rule 10: the innermost level's tag and span go to its PushBuf. The level's words are cleared: a row's words are a function of what
-- stands on it
abbrev pub ended : Words → Words
ended w =
    let n = word renders-at w in
    let k = word levels-at w in
    let a = level-at k in
    let p = word a w in
    words (set (set (set (set (set w.state a 0) (a + 1) 0) (a + 2) 0) levels-at (k - 1)) renders-at (n + 1))
    (put4 (set (set w.render (4 * p) (word (a + 1) w)) (4 * p + 1) (word (a + 2) w)) n 7 0 0 0) w.fills

unfoldable pub end_buf : Words → Words
end_buf w = cond (eqb (word levels-at w) 0) w (ended w)

-- rule 7: a depth fill at v tiles a bucket, by its two words; the summary takes in its tiles and its id
unfoldable pub put_depth : ℕ → DepthFill → ℕ → Words → Words
put_depth v f id w =
    let n = word depths-at w in
    let t = tiles-of v f.buckets in
    let ws = depth-words f in
    let s = set w.state first-at (cond (eqb n 0) t.first (min (word first-at w) t.first)) in
    words (set (set (set s end-at (max (word end-at w) t.end)) largest-at (max (word largest-at w) id)) depths-at (n + 1)) w.render
    (set (set w.fills (2 * n) (get_or ws 0 0)) (2 * n + 1) (get_or ws 1 0))

-- the rules' operations at rows of words
abbrev pub word-ops : RowOps Words
word-ops =
    record {
      renders = word renders-at;
      depths = word depths-at;
      levels-of = word levels-at;
      put = put_command;
      put-push = put_buf;
      put-pop = end_buf;
      put-depth = put_depth;
    }

-- w' is what a step, done without limits, makes of the row w: the row's words have room for it
pub record Room (w w' : Words) : Type 0 where
  pub state : length w.state ≡ row-size
  pub render : length w.render ≤ 4 * most-room
  pub fills : length w.fills ≤ 2 * most-room
  pub levels : word levels-at w ≤ most-layers
  pub commands : 4 * word renders-at w' ≤ length w.render
  pub depths : 2 * word depths-at w' ≤ length w.fills

-- w' has as many words as w, and no fewer commands and depth fills
pub record Grown (w w' : Words) : Type 0 where
  pub state : length w'.state ≡ length w.state
  pub render : length w'.render ≡ length w.render
  pub fills : length w'.fills ≡ length w.fills
  pub commands : word renders-at w ≤ word renders-at w'
  pub depths : word depths-at w ≤ word depths-at w'

-- a row that can be popped: a level is open, and its PushBuf stands on the row
pub record Ends (w : Words) : Type 0 where
  pub levels : 0 < word levels-at w
  pub place : word (level-at (word levels-at w)) w < word renders-at w
