-- What the calls that `rowdump` makes leave; v: panels are shown.
use Rattle.std.specs.Prelude.{ℕ, ◌+◌, ◌*◌, Bool, ◌&&◌, cond, List, [], ◌++◌, length, leb, ltb, eqb, ℤ, Float}
use Rattle.sizes.specs.Sizes.{most-attrs, most-filters, opacity-count, paint-attr-table, layer-attr-table, filter-paint-table}
use Rattle.rules.specs.Answers.{Done, BadRecord, NoRoom}
use Rattle.screen.specs.declared.Screen.{Screen}
use Rattle.screen.specs.Depths.{Depths, depths_in}
use Rattle.paint.specs.Painting.{RowLent, words_lent, StepOut}
use Rattle.paint.specs.Stepping.{Attributes, stepped}
use Rattle.paint.specs.Running.{row-painted}
use Rattle.paint.specs.declared.canvas.stored.Canvas.{Canvas}
use Rattle.text.specs.Listed as list
use Rattle.text.specs.Listed.{Listing, listing, written, text-out}
use Rattle.text.specs.Bytes.{detail-room, piece-room, details-text}
use Rattle.text.specs.Tables.{paint-lines, layer-lines, filter-lines}
use Rattle.text.specs.Pieces.{most-pieces, row-lines}
use Rattle.text.specs.declared.painted.Tables.{Tables}

-- what a call on a row leaves: its answer, the lent words, the bytes
pub record RowOut : Type 0 where
  pub answer : Listing
  pub depth : Depths
  pub painting : List ℕ
  pub list : List ℕ
  pub bytes : List ℕ

abbrev pub row_out : Listing → Depths → List ℕ → List ℕ → List ℕ → RowOut
row_out a d p l bs = record { answer = a; depth = d; painting = p; list = l; bytes = bs }

abbrev pub row_in : Listing → Canvas → List ℕ → List ℕ → RowOut
row_in a c l bs = row_out a (depths_in c.depth) c.painting.now l bs

-- the lines of a painted row; 14 for more than 65,536 pieces (a row has at most 2,048 steps, of at most 32 pieces each)
unfoldable pub pieces-written : Bool → ℕ → List ℕ → ℕ → List ℕ → list.TextOut
pieces-written v r ws n bs = cond (ltb 65536 n) (text-out (listing NoRoom 0) bs) (written (details-text v (row-lines r ws n)) bs)

-- a row that stands at a step that is refused: that step's number, tried with no list
pub record Stopped : Type 0 where
  pub answer : Listing
  pub depth : Depths
  pub painting : List ℕ

abbrev pub stopped-out : Listing → Depths → List ℕ → Stopped
stopped-out a d p = record { answer = a; depth = d; painting = p }

abbrev pub stopped_in : Listing → Canvas → Stopped
stopped_in a c = stopped-out a (depths_in c.depth) c.painting.now

unfoldable pub stopped : Screen → ℕ → Attributes → RowLent → Stopped
stopped s r a l = let o = stepped s r a l in stopped-out (listing o.answer.number 0) o.depth o.painting

-- a row's painting ended by a refusal, and ended whole
abbrev pub row-stopped : Screen → ℕ → Attributes → RowLent → StepOut → List ℕ → RowOut
row-stopped s r a l e bs =
    let o = stopped s r a (words_lent l.state l.render l.fills e.depth e.painting []) in
    row_out o.answer o.depth o.painting e.list bs

abbrev pub with-text : StepOut → list.TextOut → RowOut
with-text e o = row_out o.answer e.depth e.painting e.list o.bytes

-- A row painted to its end, and its pieces as lines. Where a step is refused, its number, and no text: the steps before it are done.
unfoldable pub row-dumped : Bool → Screen → ℕ → Attributes → RowLent → List ℕ → RowOut
row-dumped v s r a l bs =
    let e = row-painted s r a l in
    cond (eqb e.answer.number Done)
    (cond e.answer.finished (with-text e (pieces-written v r e.list e.answer.pieces bs)) (row-stopped s r a l e bs))
    (with-text e (text-out (listing e.answer.number 0) bs))

-- the tables of attributes
pub record AttrTables : Type 0 where
  pub paints : List ℕ
  pub layers : List ℕ
  pub opacities : List Float
  pub filters : List ℤ

abbrev pub tables : List ℕ → List ℕ → List Float → List ℤ → AttrTables
tables a b c d = record { paints = a; layers = b; opacities = c; filters = d }

-- what those that are lent hold
abbrev pub tables_of : Tables → AttrTables
tables_of t = tables t.paint_attrs.now t.layer_attrs.now t.opacities.now t.filter_paints.now

-- answer 4: counts within their limits, tables of their lengths
abbrev pub good-lengths : Screen → ℕ → ℕ → ℕ → ℕ → Bool
good-lengths s paints layers opacities filters =
    leb s.paint_attrs most-attrs
    && (leb s.layer_attrs most-attrs
    && (leb s.filter_paints most-filters
    && (eqb paints paint-attr-table && (eqb layers layer-attr-table && (eqb opacities opacity-count && eqb filters filter-paint-table)))))

abbrev pub good-tables : Screen → AttrTables → Bool
good-tables s t = good-lengths s (length t.paints) (length t.layers) (length t.opacities) (length t.filters)

-- what their text has at most: three headings, and a line for each attribute and filter paint
abbrev pub attrs-room : Screen → ℕ
attrs-room s = detail-room * (3 + (s.paint_attrs + (s.layer_attrs + s.filter_paints)))

-- .. of any screen, and what the text of a row of the programs' screens has at most
abbrev pub attrs-most : ℕ
attrs-most = detail-room * (3 + (most-attrs + (most-attrs + most-filters)))

abbrev pub row-most : ℕ
row-most = piece-room * (1 + most-pieces)

unfoldable pub attrs-text : Bool → Screen → AttrTables → List ℕ
attrs-text v s t =
    details-text v (paint-lines t.paints s.paint_attrs)
    ++ (details-text v (layer-lines t.layers t.opacities s.layer_attrs) ++ details-text v (filter-lines t.filters s.filter_paints))

unfoldable pub attrs-dumped : Bool → Screen → AttrTables → List ℕ → list.TextOut
attrs-dumped v s t bs = cond (good-tables s t) (written (attrs-text v s t) bs) (text-out (listing BadRecord 0) bs)
