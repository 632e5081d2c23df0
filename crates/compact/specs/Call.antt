-- The call: what is judged before anything of the row is read, and what it leaves.
use Rattle.std.specs.Prelude.{ℕ, ◌+◌, ◌*◌, ◌≤◌, ◌<◌, Bool, false, ◌&&◌, cond, length, eqb}
use borrow.Rule.Slice.PartMut.{put_mid}
use Rattle.sizes.specs.Sizes.{most-room, most-rows, row-size, paint-attr-table, layer-attr-table}
use Rattle.sizes.specs.Widths.{bucket-tiles}
use Rattle.rules.specs.Answers.{Answer, answer, Done, Open}
use Rattle.rules.specs.Attributes.{Attrs}
use Rattle.row.specs.Words.{Words, words}
use Rattle.row.specs.Arena.{sizes, row_at}
use Rattle.row.specs.Rows.{all-held}
use Rattle.row.specs.declared.rows.Rows.{Rows}
use Rattle.screen.specs.declared.Screen.{Screen}
use Rattle.paint.specs.Beginning.{begun}
use Rattle.paint.specs.Judging.{wide, judged, of_row, rows_long}
use Rattle.paint.specs.Painting.{attrs-at}
use Rattle.paint.specs.Stepping.{Attributes}
use Rattle.paint.specs.StoredCmds.{stored-long}
use Rattle.compact.specs.Row.{compact-words}

-- the tables that are lent have their lengths
abbrev pub tables-long : Screen → ℕ → ℕ → ℕ → Bool
tables-long s rows paint-attrs layer-attrs = rows_long s rows && eqb paint-attrs paint-attr-table && eqb layer-attrs layer-attr-table

-- 2, 1, 4, 12 for no such row, then 13 with a layer open
unfoldable pub compact_number : Screen → ℕ → Words → Attributes → ℕ
compact_number s r w a =
    let n =
    of_row
    (judged s (stored-long s (length w.render) (length w.fills)) (tables-long s (length w.state) (length a.paints) (length a.layers)))
    s
    r
    in
    cond (eqb n Done) (cond (eqb s.layers 0) Done Open) n

-- a screen with the words of its rows
pub record Stored : Type 0 where
  pub screen : Screen
  pub words : Words

abbrev pub stored : Screen → Words → Stored
stored s w = record { screen = s; words = w }

abbrev pub stored_in : Screen → Rows → Stored
stored_in s r = stored s (all-held r)

-- the words with the record and the commands of u for row r, and room for c commands in each
abbrev pub with-closed : ℕ → ℕ → Words → Words → Words
with-closed c r w u = words (put_mid (r * row-size) row-size w.state u.state) (put_mid (r * (4 * c)) (4 * c) w.render u.render) w.fills

-- done, the row's words are changed; refused, none is
abbrev pub closed-in : ℕ → ℕ → Words → Answer Words → Answer Words
closed-in c r w u = cond (eqb u.number Done) (answer Done (with-closed c r w u.value)) (answer u.number w)

-- the rows after row r of a screen is compacted
abbrev pub row-compacted : Screen → ℕ → Attrs → Words → Answer Words
row-compacted s r a w = closed-in s.c r w (compact-words (bucket-tiles s.width) (wide s) a (row_at (sizes s.c s.d) r w))

-- done, painting is ended too
abbrev pub ended : Screen → Answer Words → Answer Stored
ended s u = answer u.number (stored (cond (eqb u.number Done) (begun false s) s) u.value)

unfoldable pub compacting : ℕ → Attributes → Stored → Answer Stored
compacting r a k =
    let s = k.screen in
    let n = compact_number s r k.words a in
    let u = row-compacted s r (attrs-at a.paints s.paint_attrs a.layers s.layer_attrs) k.words in
    cond (eqb n Done) (ended s u) (answer n k)

-- row r is there, and its words lie within those that are lent
pub record RowReady (s : Screen) (r : ℕ) (w : Words) : Type 0 where
  pub there : r < most-rows
  pub narrow : wide s ≤ 64
  pub few-commands : s.c ≤ most-room
  pub few-fills : s.d ≤ most-room
  pub state : r * row-size + row-size ≤ length w.state
  pub render : r * (4 * s.c) + 4 * s.c ≤ length w.render
  pub fills : r * (2 * s.d) + 2 * s.d ≤ length w.fills
