-- Short names for the records of a recording, for attributes and pieces: for the cases.
use Rattle.std.specs.Prelude.{ℕ, ℤ, pos, neg_ℤ, true, false, List, [], ◌∷◌, map, Option, None, Some}
use Rattle.sizes.specs.declared.width.Width.TheVariants.{W128}
use Rattle.sizes.specs.declared.edition.Edition.TheVariants.{One}
use Rattle.rules.specs.Spans.{span}
use Rattle.rules.specs.Boxes.{Box, box, buckets-of}
use Rattle.rules.specs.Blends.{Blend, default-blend}
use Rattle.rules.specs.Segments.{Segment}
use Rattle.rules.specs.Inputs.{Paint, Draw, Clip, Props, Filter}
use Rattle.rules.specs.Attributes.{PaintAttr, LayerAttr, FilterPaint, Attrs}
use Rattle.rules.specs.Rows.{Row}
use Rattle.rules.specs.Steps.{Screen}
use Rattle.rules.specs.Painting.{Piece, paint-row}
use Rattle.rules.specs.Recording.{LayerRec, Node, Recording, in-one}
use Rattle.rules.specs.Words.{file}
use Rattle.rules.specs.Setups.{exact, snapping}
use Rattle.rules.specs.Lines.{Line, usual, rowlist-screen, rowlist-words}

-- segments of a row, from a first tile to an end tile
abbrev pub solid : ℕ → ℕ → ℕ → Segment
solid r a b = record { kind = 0; row = r; first = a; end = b; alpha = 0 }

abbrev pub alpha : ℕ → ℕ → ℕ → ℕ → Segment
alpha r a b i = record { kind = 1; row = r; first = a; end = b; alpha = i }

abbrev pub opaque-paint : Paint
opaque-paint = record { opaque = 1; handle = 7 }

-- a draw: thread, segments a to b, paint, blend, mask, panel
abbrev pub any-draw : ℕ → ℕ → ℕ → ℕ → Blend → ℕ → ℕ → Draw
any-draw th a b p bl m q = record { thread = th; start = a; end = b; paint = p; blend = bl; mask = m; panel = q }

-- a draw of segments a to b with paint 0; for panel q
abbrev pub draw : ℕ → ℕ → Draw
draw a b = any-draw 0 a b 0 default-blend 0 0

abbrev pub draw-for : ℕ → ℕ → ℕ → Draw
draw-for q a b = any-draw 0 a b 0 default-blend 0 q

-- a layer's properties: blend, opacity's bits, mask, clip, panel
abbrev pub any-props : Blend → ℕ → ℕ → Option Clip → ℕ → Props
any-props b o m c q = record { blend = b; opacity = o; mask = m; clip = c; panel = q }

abbrev pub no-clip : Clip
no-clip = record { bounds = box 0 0 0 0; start = 0; end = 0; thread = 0 }

abbrev pub no-filter : Filter
no-filter = record { pixmap = None; dest = box 0 0 0 0; source-x = 0; source-y = 0 }

abbrev pub blend : ℕ → ℕ → Blend
blend m c = record { mix = m; compose = c }

-- a box, segments a to b, and a thread
abbrev pub clip : Box → ℕ → ℕ → ℕ → Clip
clip q a b th = record { bounds = q; start = a; end = b; thread = th }

-- the bits of opacity 1.0, and of a NaN
abbrev pub full : ℕ
full = 1065353216

abbrev pub a-nan : ℕ
a-nan = 2143289345

-- a layer of a file: kind, nodes a to b, blend, opacity's bits, mask, clip flag, clip, filter
abbrev pub any-layer : ℕ → ℕ → ℕ → Blend → ℕ → ℕ → ℕ → Clip → Filter → LayerRec
any-layer k a b bl o m fl c f =
    record { kind = k; start = a; end = b; blend = bl; opacity = o; mask = m; flag = fl; clip = c; filter = f; panel = 0 }

-- a regular layer with nodes a to b: as it is; with a blend; with a clip box, clip segments c to e and thread 3
abbrev pub layer : ℕ → ℕ → LayerRec
layer a b = any-layer 0 a b default-blend full 0 0 no-clip no-filter

abbrev pub composed : ℕ → ℕ → ℕ → LayerRec
composed k a b = any-layer 0 a b (blend 0 k) full 0 0 no-clip no-filter

abbrev pub clipped : Box → ℕ → ℕ → ℕ → ℕ → LayerRec
clipped q c e a b = any-layer 0 a b default-blend full 0 1 (clip q c e 3) no-filter

-- a filter layer with its opacity's bits and its mask
abbrev pub filtered : ℕ → ℕ → Filter → LayerRec
filtered o m f = any-layer 1 0 0 default-blend o m 0 no-clip f

-- picture h, or no picture, to a dest box, from a source origin
abbrev pub filter : ℕ → Box → ℕ → ℕ → Filter
filter h q x y = record { pixmap = Some h; dest = q; source-x = x; source-y = y }

abbrev pub pictureless : Box → ℕ → ℕ → Filter
pictureless q x y = record { pixmap = None; dest = q; source-x = x; source-y = y }

-- a node: draws a to b, then a layer's number + 1, or 0
abbrev pub node : ℕ → ℕ → ℕ → Node
node a b l = record { start = a; end = b; layer = l }

-- a recording with one opaque paint, whose root is nodes a to b
abbrev pub rec : Box → List Segment → List Draw → List LayerRec → List Node → ℕ → ℕ → Recording
rec v ss ds ls ns a b =
    record {
      viewport = v;
      paints = opaque-paint ∷ [];
      segments = ss;
      draws = ds;
      layers = ls;
      nodes = ns;
      start = a;
      end = b;
    }

abbrev pub minus : ℕ → ℤ
minus n = neg_ℤ (pos n)

-- a paint attribute of panel 0: paint, mix, compose, mask, id, thread, origin
abbrev pub paint-attr : ℕ → ℕ → ℕ → ℕ → ℕ → ℕ → ℕ → ℕ → PaintAttr
paint-attr p m c k id th x y =
    record { paint = p; blend = blend m c; mask = k; id = id; thread = th; origin-x = x; origin-y = y; panel = 0 }

-- a layer attribute of panel 0: mix, compose, opacity's bits, mask, id, thread
abbrev pub layer-attr : ℕ → ℕ → ℕ → ℕ → ℕ → ℕ → LayerAttr
layer-attr m c o k id th = record { blend = blend m c; opacity = o; mask = k; id = id; thread = th; panel = 0 }

abbrev pub filter-paint : ℕ → ℤ → ℤ → FilterPaint
filter-paint h x y = record { pixmap = h; shift-x = x; shift-y = y }

abbrev pub attrs : List PaintAttr → List LayerAttr → List FilterPaint → Attrs
attrs ps ls fs = record { paints = ps; layers = ls; filters = fs }

-- a piece of panel 0: attribute, first tile, end, alpha or none, nesting
abbrev pub paint-piece : ℕ → ℕ → ℕ → Option ℕ → ℕ → Piece
paint-piece i a b x n = record { layer = false; attribute = i; tiles = span a b; alpha = x; nesting = n; panel = 0 }

abbrev pub layer-piece : ℕ → ℕ → ℕ → Option ℕ → ℕ → Piece
layer-piece i a b x n = record { layer = true; attribute = i; tiles = span a b; alpha = x; nesting = n; panel = 0 }

-- what `rowlist` prints of a file's words, and with `--snap`
abbrev pub listed : List ℕ → List Line
listed ws = rowlist-words (usual exact W128) (in-one ws)

abbrev pub listed-snapped : List ℕ → List Line
listed-snapped ws = rowlist-words (usual snapping W128) (in-one ws)

-- what `rowlist` makes of a recording's file: the screen, its attributes, and each row's pieces, painted to its end
abbrev pub screen-of : Recording → Screen Row
screen-of r = (rowlist-screen (usual exact W128) (in-one (file One r))).value

abbrev pub attributes : Recording → Attrs
attributes r = (screen-of r).state.attrs

abbrev pub pieces : Recording → List (List Piece)
pieces r = map (paint-row 32 (attributes r) (buckets-of 32 r.viewport)) (screen-of r).rows
