-- Tests: directed cases. A recording, the lines that `rowlist` prints of it, its attributes and its painted pieces, by computation.
use Rattle.std.proofs.Common.{◌≡◌, refl, true, List, [], ◌∷◌, None, Some, pos}
use Rattle.sizes.specs.declared.width.Width.TheVariants.{W128}
use Rattle.sizes.specs.declared.edition.Edition.TheVariants.{One}
use Rattle.rules.specs.Lists.{every}
use Rattle.rules.specs.Spans.{span}
use Rattle.rules.specs.Boxes.{box}
use Rattle.rules.specs.Blends.{default-blend}
use Rattle.rules.specs.Recording.{Recording}
use Rattle.rules.specs.Words.{file}
use Rattle.rules.specs.Lines.{header, row, D, P, L, B, E, refused}
use Rattle.rules.proofs.Picture.{same-picture}
use Rattle.rules.proofs.Computing.{computing}
use Rattle.rules.specs.cases.WorkedExample.{worked-recording}
use Rattle.rules.specs.cases.Samples.{solid, alpha, opaque-paint, any-draw, draw, any-layer, blend, clip, no-clip, no-filter, full, a-nan, layer, composed, clipped, filtered, filter, pictureless, node, rec, minus, attrs, paint-attr, layer-attr, filter-paint, paint-piece, layer-piece, attributes, pieces, listed, listed-snapped}

-- An alpha segment cut at the left: the screen begins at tile 4, so its index moves by 4 x 16.
abbrev pub left_cut : Recording
left_cut = rec (box 16 0 144 4) (alpha 0 0 20 160 ∷ []) (draw 0 1 ∷ []) [] (node 0 1 0 ∷ []) 0 1

pub left-cut-lines : listed (file One left_cut) ≡ header 1 1 1 ∷ row 0 0 1 ∷ P 0 16 (Some 224) 0 ∷ []
unfolding computing
left-cut-lines = refl

-- In snapping mode the screen is the snapped box: here the one before, and 1,366 pixels are 342 tiles in 11 buckets.
pub snapped-lines :
    listed-snapped (file One (rec (box 19 3 141 1) (alpha 0 0 20 160 ∷ []) (draw 0 1 ∷ []) [] (node 0 1 0 ∷ []) 0 1)) ≡
    header 1 1 1 ∷ row 0 0 1 ∷ P 0 16 (Some 224) 0 ∷ []
unfolding computing
snapped-lines = refl

pub panel-1366-lines :
    listed-snapped (file One (rec (box 0 0 1366 4) (alpha 0 0 400 0 ∷ []) (draw 0 1 ∷ []) [] (node 0 1 0 ∷ []) 0 1)) ≡
    header 1 11 1 ∷ row 0 0 1 ∷ P 0 342 (Some 0) 0 ∷ []
unfolding computing
panel-1366-lines = refl

-- A closing clip is cut by the parent's box, tiles 0 to 16, and not by its own, tiles 8 to 16: so L 0 16.
abbrev pub parent-cut : Recording
parent-cut =
    rec (box 0 0 256 4)
    (solid 0 0 64 ∷ solid 0 0 40 ∷ [])
    (draw 0 1 ∷ [])
    (clipped (box 0 0 64 4) 1 2 1 2 ∷ clipped (box 32 0 256 4) 1 2 2 3 ∷ [])
    (node 0 0 1 ∷ node 0 0 2 ∷ node 0 1 0 ∷ [])
    0
    1

pub parent-cut-lines :
    listed (file One parent-cut) ≡
    header 1 2 3
    ∷ row 0 0 7
    ∷ B (Some (span 0 40))
    ∷ B (Some (span 0 16))
    ∷ P 8 16 None 0
    ∷ L 0 16 None 0
    ∷ E
    ∷ L 0 40 None 1
    ∷ E
    ∷ []
unfolding computing
parent-cut-lines = refl

-- The clip covers rows 0 and 1, the contents reach row 0 only: row 1 gets nothing.
abbrev pub unreached : Recording
unreached =
    rec (box 0 0 256 8)
    (solid 0 0 40 ∷ solid 0 4 30 ∷ alpha 1 4 30 0 ∷ [])
    (draw 0 1 ∷ [])
    (clipped (box 0 0 200 8) 1 3 1 2 ∷ [])
    (node 0 0 1 ∷ node 0 1 0 ∷ [])
    0
    1

pub unreached-lines :
    listed (file One unreached) ≡
    header 2 2 2 ∷ row 0 0 4 ∷ B (Some (span 0 40)) ∷ P 0 40 None 0 ∷ L 4 30 None 0 ∷ E ∷ row 1 0 0 ∷ []
unfolding computing
unreached-lines = refl

-- A nested layer's fills count for the nested PushBuf only, and the outer clip leaves row 0 out: its PushBuf has no span.
abbrev pub no_span : Recording
no_span =
    rec (box 0 0 256 8)
    (solid 0 3 9 ∷ solid 1 0 64 ∷ [])
    (draw 0 1 ∷ [])
    (clipped (box 0 0 256 8) 1 2 1 2 ∷ layer 2 3 ∷ [])
    (node 0 0 1 ∷ node 0 0 2 ∷ node 0 1 0 ∷ [])
    0
    1

pub no-span-lines :
    listed (file One no_span) ≡
    header 2 2 3
    ∷ row 0 0 6
    ∷ B None
    ∷ B (Some (span 0 64))
    ∷ P 3 9 None 0
    ∷ L 0 64 None 0
    ∷ E
    ∷ E
    ∷ row 1 0 0
    ∷ []
unfolding computing
no-span-lines = refl

-- A destructive push touches each row of its box, with nothing drawn.
abbrev pub destructive-push : Recording
destructive-push = rec (box 0 0 64 8) [] [] (composed 5 0 0 ∷ []) (node 0 0 1 ∷ []) 0 1

pub destructive-lines :
    listed (file One destructive-push) ≡
    header 2 1 1
    ∷ row 0 0 3
    ∷ B (Some (span 0 16))
    ∷ L 0 16 None 0
    ∷ E
    ∷ row 1 0 3
    ∷ B (Some (span 0 16))
    ∷ L 0 16 None 0
    ∷ E
    ∷ []
unfolding computing
destructive-lines = refl

-- A filter fill whose shift is negative on each axis, on the rows 1 and 2 that its box meets.
abbrev pub shifted : Recording
shifted = rec (box 0 0 128 16) [] [] (filtered full 0 (filter 5 (box 20 6 60 9) 1 2) ∷ []) (node 0 0 1 ∷ []) 0 1

pub shifted-lines :
    listed (file One shifted) ≡
    header 4 1 1 ∷ row 0 0 0 ∷ row 1 0 1 ∷ P 5 15 None 0 ∷ row 2 0 1 ∷ P 5 15 None 0 ∷ row 3 0 0 ∷ []
unfolding computing
shifted-lines = refl

pub shifted-attributes : attributes shifted ≡ attrs (paint-attr 1 0 3 0 1 0 0 0 ∷ []) [] (filter-paint 5 (minus 19) (minus 4) ∷ [])
unfolding computing
shifted-attributes = refl

pub shifted-pieces : pieces shifted ≡ [] ∷ (paint-piece 0 5 15 None 0 ∷ []) ∷ (paint-piece 0 5 15 None 0 ∷ []) ∷ [] ∷ []
unfolding computing
shifted-pieces = refl

-- A filter with NaN opacity needs a buffer, and the pattern is kept.
abbrev pub nan-filter : Recording
nan-filter = rec (box 0 0 64 4) [] [] (filtered a-nan 0 (filter 5 (box 0 0 32 4) 0 0) ∷ []) (node 0 0 1 ∷ []) 0 1

pub nan-lines :
    listed (file One nan-filter) ≡
    header 1 1 2 ∷ row 0 0 4 ∷ B (Some (span 0 16)) ∷ P 0 8 None 0 ∷ L 0 16 None 0 ∷ E ∷ []
unfolding computing
nan-lines = refl

pub nan-attributes : attributes nan-filter ≡ attrs (paint-attr 1 0 3 0 1 0 0 0 ∷ []) (layer-attr 0 3 a-nan 0 2 0 ∷ []) (filter-paint 5 (minus 0) (minus 0) ∷ [])
unfolding computing
nan-attributes = refl

pub nan-pieces : pieces nan-filter ≡ (paint-piece 0 0 8 None 1 ∷ layer-piece 0 0 16 None 1 ∷ []) ∷ []
unfolding computing
nan-pieces = refl

-- A filter without a picture draws nothing; with a mask it is still pushed and popped, which takes an id.
abbrev pub no-picture : Recording
no-picture =
    rec (box 0 0 64 4) [] []
    (filtered full 0 (pictureless (box 0 0 32 4) 0 0) ∷ filtered full 2 (pictureless (box 0 0 32 4) 0 0) ∷ [])
    (node 0 0 1 ∷ node 0 0 2 ∷ [])
    0
    2

pub no-picture-lines : listed (file One no-picture) ≡ header 1 1 1 ∷ row 0 0 0 ∷ []
unfolding computing
no-picture-lines = refl

pub no-picture-attributes : attributes no-picture ≡ attrs [] (layer-attr 0 3 full 2 1 0 ∷ []) []
unfolding computing
no-picture-attributes = refl

-- The first picture is number 0: it is drawn, and its filter paint has the plain handle; so is the last one.
abbrev pub first-picture : Recording
first-picture =
    rec (box 0 0 64 4) [] []
    (filtered full 0 (filter 0 (box 0 0 32 4) 0 0) ∷ filtered full 0 (filter 2147483647 (box 32 0 64 4) 0 0) ∷ [])
    (node 0 0 1 ∷ node 0 0 2 ∷ [])
    0
    2

pub first-picture-lines : listed (file One first-picture) ≡ header 1 1 2 ∷ row 0 0 2 ∷ P 0 8 None 0 ∷ P 8 16 None 1 ∷ []
unfolding computing
first-picture-lines = refl

pub first-picture-attributes :
    attributes first-picture ≡
    attrs (paint-attr 1 0 3 0 1 0 0 0 ∷ paint-attr 2 0 3 0 2 0 0 0 ∷ []) [] (filter-paint 0 (pos 0) (pos 0) ∷ filter-paint 2147483647 (minus 32) (pos 0) ∷ [])
unfolding computing
first-picture-attributes = refl

pub first-picture-pieces : pieces first-picture ≡ (paint-piece 0 0 8 None 0 ∷ paint-piece 1 8 16 None 0 ∷ []) ∷ []
unfolding computing
first-picture-pieces = refl

-- A filter layer's nodes are not walked: the draw of its node takes no id.
abbrev pub filter-nodes : Recording
filter-nodes =
    rec (box 0 0 64 4)
    (solid 0 0 8 ∷ [])
    (draw 0 1 ∷ [])
    (any-layer 1 1 2 default-blend full 0 0 no-clip (filter 5 (box 0 0 32 4) 0 0) ∷ [])
    (node 0 0 1 ∷ node 0 1 0 ∷ [])
    0
    1

pub filter-nodes-lines : listed (file One filter-nodes) ≡ header 1 1 1 ∷ row 0 0 1 ∷ P 0 8 None 0 ∷ []
unfolding computing
filter-nodes-lines = refl

-- A layer that reaches itself: 6 at the 17th push.
pub cyclic-lines : listed (file One (rec (box 0 0 64 4) [] [] (layer 0 1 ∷ []) (node 0 0 1 ∷ []) 0 1)) ≡ refused 6 ∷ []
unfolding computing
cyclic-lines = refl

-- A bad order in a draw that no node has: 5.
pub unreachable-order :
    listed (file One (rec (box 0 0 64 4) (solid 0 0 9 ∷ solid 0 8 12 ∷ []) (draw 0 2 ∷ []) [] [] 0 0)) ≡ refused 5 ∷ []
unfolding computing
unreachable-order = refl

-- 4 before 5: besides, a segment that no list has is empty.
pub record-before-order :
    listed (file One (rec (box 0 0 64 4) (solid 0 0 9 ∷ solid 0 8 12 ∷ solid 0 5 5 ∷ []) (draw 0 2 ∷ []) [] [] 0 0)) ≡
    refused 4 ∷ []
unfolding computing
record-before-order = refl

-- Touching is no overlap.
pub touching-order :
    listed (file One (rec (box 0 0 64 4) (solid 0 0 9 ∷ solid 0 9 12 ∷ []) (draw 0 2 ∷ []) [] [] 0 0)) ≡
    header 1 1 0 ∷ row 0 0 0 ∷ []
unfolding computing
touching-order = refl

-- The screen ends at tile 50, in the middle of its last bucket: that bucket is no depth fill, and nothing is hidden in it.
abbrev pub last-bucket : Recording
last-bucket =
    rec (box 0 0 200 4) (solid 0 0 8192 ∷ alpha 0 20 60 32 ∷ []) (draw 1 2 ∷ draw 0 1 ∷ []) [] (node 0 2 0 ∷ []) 0 1

pub last-bucket-lines :
    listed (file One last-bucket) ≡
    header 1 2 2 ∷ row 0 1 2 ∷ D 0 1 1 ∷ P 20 50 (Some 32) 0 ∷ P 32 50 None 1 ∷ []
unfolding computing
last-bucket-lines = refl

pub last-bucket-attributes : attributes last-bucket ≡ attrs (paint-attr 0 0 3 0 1 0 0 0 ∷ paint-attr 0 0 3 0 2 0 0 0 ∷ []) [] []
unfolding computing
last-bucket-attributes = refl

pub last-bucket-pieces : pieces last-bucket ≡ (paint-piece 1 0 32 None 0 ∷ paint-piece 0 32 50 (Some 224) 0 ∷ paint-piece 1 32 50 None 0 ∷ []) ∷ []
unfolding computing
last-bucket-pieces = refl

-- A viewport that begins at 128, 64: rows and tiles count from there, the clip box stops at its edge, and attributes name its origin.
abbrev pub away : Recording
away =
    rec (box 128 64 384 72)
    (solid 15 0 100 ∷ solid 16 20 100 ∷ solid 17 40 70 ∷ [])
    (draw 0 2 ∷ draw 2 3 ∷ [])
    (clipped (box 0 0 256 68) 0 2 1 2 ∷ [])
    (node 0 1 1 ∷ node 0 2 0 ∷ [])
    0
    1

pub away-lines :
    listed (file One away) ≡
    header 2 2 4
    ∷ row 0 1 4
    ∷ D 0 2 0
    ∷ B (Some (span 0 64))
    ∷ P 0 32 None 1
    ∷ L 0 64 None 0
    ∷ E
    ∷ row 1 0 0
    ∷ []
unfolding computing
away-lines = refl

pub away-attributes :
    attributes away ≡
    attrs
    (paint-attr 0 0 3 0 1 0 128 64 ∷ paint-attr 0 0 3 0 2 0 128 64 ∷ paint-attr 0 0 3 0 3 0 128 64 ∷ [])
    (layer-attr 0 3 full 0 4 3 ∷ [])
    []
unfolding computing
away-attributes = refl

-- A panel over a banner: the newer depth fill is painted first, and hides the alpha fill that came before it in its bucket.
abbrev pub panel : Recording
panel =
    rec (box 0 0 512 4)
    (solid 0 0 128 ∷ alpha 0 20 90 320 ∷ solid 0 40 100 ∷ [])
    (draw 0 1 ∷ draw 1 2 ∷ draw 2 3 ∷ [])
    []
    (node 0 3 0 ∷ [])
    0
    1

pub panel-lines :
    listed (file One panel) ≡
    header 1 4 3 ∷ row 0 2 3 ∷ D 0 4 0 ∷ D 2 3 2 ∷ P 20 90 (Some 320) 1 ∷ P 40 64 None 2 ∷ P 96 100 None 2 ∷ []
unfolding computing
panel-lines = refl

pub panel-attributes : attributes panel ≡ attrs (paint-attr 0 0 3 0 1 0 0 0 ∷ paint-attr 0 0 3 0 2 0 0 0 ∷ paint-attr 0 0 3 0 3 0 0 0 ∷ []) [] []
unfolding computing
panel-attributes = refl

pub panel-pieces : pieces panel ≡ (paint-piece 2 64 96 None 0 ∷ paint-piece 0 0 64 None 0 ∷ paint-piece 0 96 128 None 0 ∷ paint-piece 1 20 64 (Some 320) 0 ∷ paint-piece 2 40 64 None 0 ∷ paint-piece 2 96 100 None 0 ∷ []) ∷ []
unfolding computing
panel-pieces = refl

-- Rule 6: of four draws over the same buckets only the first is eligible. The second has a mask, the third a blend, the fourth a paint that
-- is not opaque.
abbrev pub ineligible : Recording
ineligible =
    record {
      viewport = box 0 0 512 4;
      paints = opaque-paint ∷ record { opaque = 0; handle = 8 } ∷ [];
      segments = solid 0 0 128 ∷ [];
      draws =
          draw 0 1
          ∷ any-draw 0 0 1 0 default-blend 9 0
          ∷ any-draw 0 0 1 0 (blend 1 3) 0 0
          ∷ any-draw 0 0 1 1 default-blend 0 0
          ∷ [];
      layers = [];
      nodes = node 0 4 0 ∷ [];
      start = 0;
      end = 1;
    }

pub ineligible-lines :
    listed (file One ineligible) ≡
    header 1 4 4 ∷ row 0 1 3 ∷ D 0 4 0 ∷ P 0 128 None 1 ∷ P 0 128 None 2 ∷ P 0 128 None 3 ∷ []
unfolding computing
ineligible-lines = refl

-- What a draw and a layer are given stands in their attributes: paint, blend, mask, thread, opacity, the clip's thread; the viewport's
-- origin beside a paint's. The clip box begins inside the viewport on the x axis.
abbrev pub kept : Recording
kept =
    record {
      viewport = box 128 64 384 72;
      paints = opaque-paint ∷ record { opaque = 0; handle = 8 } ∷ [];
      segments = solid 16 40 60 ∷ solid 16 40 50 ∷ [];
      draws = any-draw 5 0 1 1 (blend 2 4) 9 0 ∷ [];
      layers = any-layer 0 1 2 (blend 1 2) 1056964608 4 1 (clip (box 160 64 256 68) 1 2 3) no-filter ∷ [];
      nodes = node 0 0 1 ∷ node 0 1 0 ∷ [];
      start = 0;
      end = 1;
    }

pub kept-lines :
    listed (file One kept) ≡
    header 2 2 2 ∷ row 0 0 4 ∷ B (Some (span 8 28)) ∷ P 8 28 None 0 ∷ L 8 18 None 0 ∷ E ∷ row 1 0 0 ∷ []
unfolding computing
kept-lines = refl

pub kept-attributes : attributes kept ≡ attrs (paint-attr 1 2 4 9 1 5 128 64 ∷ []) (layer-attr 1 2 1056964608 4 2 3 ∷ []) []
unfolding computing
kept-attributes = refl

-- Two filter fills away from the origin: the first begins before the viewport, which stops its box but not its shift; the second inside it.
-- Their paints are counted after the paint list's. A draw comes after them.
abbrev pub placed : Recording
placed =
    rec (box 128 64 384 72)
    (solid 16 40 44 ∷ [])
    (draw 0 1 ∷ [])
    (filtered full 0 (filter 5 (box 120 65 200 67) 7 90) ∷ filtered full 0 (filter 6 (box 160 68 200 70) 170 60) ∷ [])
    (node 0 0 1 ∷ node 0 0 2 ∷ node 0 1 0 ∷ [])
    0
    3

pub placed-lines :
    listed (file One placed) ≡
    header 2 2 3 ∷ row 0 0 2 ∷ P 0 18 None 0 ∷ P 8 12 None 2 ∷ row 1 0 1 ∷ P 8 18 None 1 ∷ []
unfolding computing
placed-lines = refl

pub placed-attributes :
    attributes placed ≡
    attrs
    (paint-attr 1 0 3 0 1 0 128 64 ∷ paint-attr 2 0 3 0 2 0 128 64 ∷ paint-attr 0 0 3 0 3 0 128 64 ∷ [])
    []
    (filter-paint 5 (minus 113) (pos 25) ∷ filter-paint 6 (pos 10) (minus 8) ∷ [])
unfolding computing
placed-attributes = refl

-- A destructive push of a box that is empty on the x axis touches nothing; its pop takes an id.
abbrev pub empty-push : Recording
empty-push =
    rec (box 0 0 64 8) [] []
    (any-layer 0 0 0 (blend 0 5) full 0 1 (clip (box 8 0 8 4) 0 0 0) no-filter ∷ [])
    (node 0 0 1 ∷ [])
    0
    1

pub empty-push-lines : listed (file One empty-push) ≡ header 2 1 1 ∷ row 0 0 0 ∷ row 1 0 0 ∷ []
unfolding computing
empty-push-lines = refl

-- A filter layer with a clip needs a buffer: the clip's box cuts the fill, the parent's box the closing clip.
abbrev pub clipped-filter : Recording
clipped-filter =
    rec (box 0 0 64 4)
    (solid 0 0 9 ∷ [])
    []
    (any-layer 1 0 0 default-blend full 0 1 (clip (box 0 0 16 4) 0 1 2) (filter 5 (box 0 0 32 4) 0 0) ∷ [])
    (node 0 0 1 ∷ [])
    0
    1

pub clipped-filter-lines :
    listed (file One clipped-filter) ≡
    header 1 1 2 ∷ row 0 0 4 ∷ B (Some (span 0 9)) ∷ P 0 4 None 0 ∷ L 0 9 None 0 ∷ E ∷ []
unfolding computing
clipped-filter-lines = refl

-- An empty draw takes an id and no attribute, first of all and after a layer; two layers one after the other, with a draw between, have attributes
-- of their own. Both hold the same node.
abbrev pub in-turn : Recording
in-turn =
    rec (box 0 0 256 4)
    (solid 0 0 8 ∷ solid 0 10 20 ∷ [])
    (draw 0 0 ∷ draw 0 1 ∷ draw 1 2 ∷ [])
    (layer 2 3 ∷ layer 2 3 ∷ [])
    (node 0 2 1 ∷ node 0 2 2 ∷ node 2 3 0 ∷ [])
    0
    2

pub in-turn-lines :
    listed (file One in-turn) ≡
    header 1 2 8
    ∷ row 0 0 10
    ∷ P 0 8 None 0
    ∷ B (Some (span 0 64))
    ∷ P 10 20 None 1
    ∷ L 0 64 None 0
    ∷ E
    ∷ P 0 8 None 2
    ∷ B (Some (span 0 64))
    ∷ P 10 20 None 3
    ∷ L 0 64 None 1
    ∷ E
    ∷ []
unfolding computing
in-turn-lines = refl

pub in-turn-attributes :
    attributes in-turn ≡
    attrs
    (paint-attr 0 0 3 0 2 0 0 0 ∷ paint-attr 0 0 3 0 3 0 0 0 ∷ paint-attr 0 0 3 0 6 0 0 0 ∷ paint-attr 0 0 3 0 7 0 0 0 ∷ [])
    (layer-attr 0 3 full 0 4 0 ∷ layer-attr 0 3 full 0 8 0 ∷ [])
    []
unfolding computing
in-turn-attributes = refl

-- the accepted cases
abbrev pub pictured : List Recording
pictured =
    left_cut
    ∷ parent-cut
    ∷ unreached
    ∷ no_span
    ∷ destructive-push
    ∷ shifted
    ∷ nan-filter
    ∷ no-picture
    ∷ first-picture
    ∷ last-bucket
    ∷ away
    ∷ panel
    ∷ ineligible
    ∷ kept
    ∷ placed
    ∷ empty-push
    ∷ clipped-filter
    ∷ in-turn
    ∷ []

-- Painting gives each tile of each of them, and of the worked example, what plain draw order gives it: one test.
pub same-pictures : every (same-picture W128) (worked-recording ∷ pictured) ≡ true
unfolding computing
same-pictures = refl
