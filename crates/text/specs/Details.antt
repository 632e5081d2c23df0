-- What `rowdump` prints after the lines of `rowlist`: attributes, filter paints, and each row's pieces in painting order.
use Rattle.std.specs.Prelude.{ℕ, suc, cond, List, [], ◌∷◌, ◌++◌, map, length, eqb, ℤ}
use Rattle.std.specs.Prelude.{Option}
use Rattle.rules.specs.Answers.{Done}
use Rattle.rules.specs.Rows.{Row}
use Rattle.rules.specs.Attributes.{PaintAttr, LayerAttr, FilterPaint, Attrs}
use Rattle.rules.specs.Plans.{bucket, buckets-across}
use Rattle.rules.specs.Setups.{Setup}
use Rattle.rules.specs.Steps.{Screen}
use Rattle.rules.specs.Painting.{Piece, paint-row}
use Rattle.rules.specs.Recording.{File}
use Rattle.rules.specs.Lines.{rowlist-screen}

-- A: paint mix compose mask id thread x y panel. Y: mix compose opacity-bits mask id thread panel. F: flag pixmap dx dy.
-- p, l: attribute, first tile, end, alpha or none, nesting, panel
pub data Detail : Type 0 where
  paint-attributes : ℕ → Detail
  A : ℕ → ℕ → ℕ → ℕ → ℕ → ℕ → ℕ → ℕ → ℕ → Detail
  layer-attributes : ℕ → Detail
  Y : ℕ → ℕ → ℕ → ℕ → ℕ → ℕ → ℕ → Detail
  filter-paints : ℕ → Detail
  F : ℕ → ℕ → ℤ → ℤ → Detail
  painted : ℕ → ℕ → Detail
  p : ℕ → ℕ → ℕ → Option ℕ → ℕ → ℕ → Detail
  l : ℕ → ℕ → ℕ → Option ℕ → ℕ → ℕ → Detail

abbrev pub paint-attr-line : PaintAttr → Detail
paint-attr-line a = A a.paint a.blend.mix a.blend.compose a.mask a.id a.thread a.origin-x a.origin-y a.panel

abbrev pub layer-attr-line : LayerAttr → Detail
layer-attr-line a = Y a.blend.mix a.blend.compose a.opacity a.mask a.id a.thread a.panel

abbrev pub filter-paint-line : FilterPaint → Detail
filter-paint-line f = F 0 f.pixmap f.shift-x f.shift-y

abbrev pub piece-line : Piece → Detail
piece-line k =
    cond k.layer
    (l k.attribute k.tiles.first k.tiles.end k.alpha k.nesting k.panel)
    (p k.attribute k.tiles.first k.tiles.end k.alpha k.nesting k.panel)

abbrev pub attr-lines : Attrs → List Detail
attr-lines a =
    (paint-attributes (length a.paints) ∷ map paint-attr-line a.paints)
    ++ ((layer-attributes (length a.layers) ∷ map layer-attr-line a.layers)
    ++ (filter-paints (length a.filters) ∷ map filter-paint-line a.filters))

-- row i with its pieces
abbrev pub painted-row : ℕ → List Piece → List Detail
painted-row i ks = painted i (length ks) ∷ map piece-line ks

-- the rows from number i on, painted over n buckets of w tiles
unfoldable pub painted-lines : ℕ → Attrs → ℕ → ℕ → List Row → List Detail
painted-lines w a n i [] = []
painted-lines w a n i (r ∷ rs) = painted-row i (paint-row w a n r) ++ painted-lines w a n (suc i) rs

abbrev pub detail-lines : Screen Row → List Detail
detail-lines s =
    let a = s.state.attrs in
    let f = s.state.frame in
    attr-lines a ++ painted-lines (bucket f) a (buckets-across f) 0 s.rows

-- a file; a refused recording has no details
unfoldable pub rowdump-words : Setup → File → List Detail
rowdump-words q f = let a = rowlist-screen q f in cond (eqb a.number Done) (detail-lines a.value) []
