-- What the parts of a recording's text leave: one text after the other, each at the start of the bytes that are left.
use Rattle.std.specs.Prelude.{ℕ, zero, suc, ◌+◌, ◌*◌, ◌≤◌, ◌≡◌, Bool, List, ◌++◌, length, take, drop}
use Rattle.sizes.specs.Sizes.{program-rows, program-room}
use Rattle.screen.specs.declared.Screen.{Screen}
use Rattle.screen.specs.Depths.{Depths, depths_in}
use Rattle.screen.specs.Tables as screen
use Rattle.paint.specs.Painting.{RowLent, words_lent}
use Rattle.paint.specs.Beginning.{canvas, beginning}
use Rattle.paint.specs.declared.canvas.stored.Canvas.{Canvas}
use Rattle.paint.specs.Stepping.{Attributes, attributes}
use Rattle.text.specs.Listed.{row_room}
use Rattle.text.specs.Pieces.{piece-list}
use Rattle.text.specs.Dumped.{attrs-most, row-most, AttrTables, tables, row-dumped, attrs-dumped}
use Rattle.text_dump.specs.declared.Desk.{Desk}

-- What the lines of `rowlist` have at most; what the details have; what all that stands after the first line has; and the whole text.
abbrev pub list-room : ℕ
list-room = 64 + program-rows * row_room program-room program-room

abbrev pub details-room : ℕ
details-room = attrs-most + program-rows * row-most

abbrev pub lines-room : ℕ
lines-room = list-room + details-room

abbrev pub dump-room : ℕ
dump-room = 32 + lines-room

-- how many bytes a part has written, the words that painting changes, the bytes
pub record Part : Type 0 where
  pub count : ℕ
  pub depth : Depths
  pub painting : List ℕ
  pub list : List ℕ
  pub bytes : List ℕ

abbrev pub part : ℕ → Depths → List ℕ → List ℕ → List ℕ → Part
part n d p l bs = record { count = n; depth = d; painting = p; list = l; bytes = bs }

abbrev pub part_in : ℕ → Canvas → List ℕ → List ℕ → Part
part_in n c l bs = part n (depths_in c.depth) c.painting.now l bs

-- its text: n bytes are written, and bs are the bytes
pub record PartWritten (n : ℕ) (bs : List ℕ) (q : Part) : Type 0 where
  pub count : n ≡ q.count
  pub bytes : bs ≡ q.bytes

-- a part after n bytes that stand first in bs
abbrev pub after : ℕ → List ℕ → Part → Part
after n bs q = part (n + q.count) q.depth q.painting q.list (take n bs ++ q.bytes)

-- k rows from row r on; v: panels are shown
unfoldable pub rows-dumped : Bool → ℕ → ℕ → Screen → Attributes → RowLent → List ℕ → Part
rows-dumped v zero r s a l bs = part 0 l.depth l.painting l.list bs
rows-dumped v (suc k) r s a l bs =
    let o = row-dumped v s r a l bs in
    after o.answer.bytes o.bytes
    (rows-dumped v k (suc r) s a (words_lent l.state l.render l.fills o.depth o.painting o.list) (drop o.answer.bytes o.bytes))

-- the n rows once painting has begun
abbrev pub begun-dumped : Bool → Screen → ℕ → Attributes → RowLent → List ℕ → Part
begun-dumped v s n a l bs =
    let k = (beginning (canvas s l.depth l.painting)).value in
    rows-dumped v n 0 k.screen a (words_lent l.state l.render l.fills k.depth k.painting l.list) bs

-- the attributes, then the rows
unfoldable pub details-dumped : Bool → Screen → ℕ → AttrTables → RowLent → List ℕ → Part
details-dumped v s n t l bs =
    let o = attrs-dumped v s t bs in
    after o.answer.bytes o.bytes (begun-dumped v s n (attributes t.paints t.layers) l (drop o.answer.bytes o.bytes))

-- the tables' attributes, and what painting is given of them
abbrev pub heads : screen.Tables → AttrTables
heads t = tables t.paint-attrs t.layer-attrs t.opacities t.filter-paints

abbrev pub given : screen.Tables → List ℕ → RowLent
given t list = words_lent t.rows t.render t.fills t.depth t.painting list

-- a desk has a list for the pieces of any row, and room for the longest text
pub record Ready (d : Desk) : Type 0 where
  pub pieces : piece-list ≡ length d.list.now
  pub room : dump-room ≤ length d.text.now
