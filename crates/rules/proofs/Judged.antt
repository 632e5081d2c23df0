-- Tests: a recording's file judged. Each answer from 1 to 5, on both sides of its edge and in its order, and what a refused recording leaves.
use Rattle.std.proofs.Common.{ℕ, ◌+◌, ◌-◌, ◌≡◌, refl, true, List, [], ◌∷◌, ◌++◌, map, None, Some, length, take, replicate, eqb}
use Rattle.sizes.specs.declared.width.Width.TheVariants.{W128}
use Rattle.sizes.specs.declared.edition.Edition.TheVariants.{One}
use Rattle.rules.specs.Lists.{every, join, range}
use Rattle.rules.specs.Answers.{Answer, answer, Done, BadArena, BadViewport, BadForm, BadRecord, BadOrder, Deep}
use Rattle.rules.specs.Boxes.{Box, box}
use Rattle.rules.specs.Spans.{span}
use Rattle.rules.specs.Blends.{Blend, default-blend}
use Rattle.rules.specs.Segments.{Segment}
use Rattle.rules.specs.Inputs.{Paint, Draw, Clip, Filter}
use Rattle.rules.specs.Rows.{Row, fresh-row, row-ops}
use Rattle.rules.specs.Steps.{Screen, reset, call}
use Rattle.rules.specs.Recording.{Recording, LayerRec, Node, in-one}
use Rattle.rules.specs.Words.{file}
use Rattle.rules.specs.Walk.{Place, needed, play}
use Rattle.rules.specs.Lines.{header, row, P, L, B, E, refused}
use Rattle.rules.specs.cases.Samples.{solid, opaque-paint, draw, any-layer, no-clip, no-filter, full, blend, clip, layer, filtered, filter, pictureless, node, rec, listed, listed-snapped}
use Rattle.rules.specs.Setups.{Mode, exact, snapping, Setup, frame}
use Rattle.rules.specs.cases.WorkedExample.{worked-words}
use Rattle.rules.proofs.Computing.{computing}

-- two rows and two buckets, C = 4 and D = 5, lent what they need and `a`, `b`, `c` words more
abbrev asked : ℕ → ℕ → Mode → Setup
asked c d m = record { c = c; d = d; mode = m; width = W128 }

abbrev lent : ℕ → ℕ → ℕ → Place
lent a b c = record { limit = 512; setup = asked 4 5 exact; arenas = record { render = 32 + a; fills = 20 + b; depth = 4 + c; minima = 6 } }

-- .. or n minima in place of 6
abbrev lent-minima : ℕ → Place
lent-minima n = record { limit = 512; setup = asked 4 5 exact; arenas = record { render = 32; fills = 20; depth = 4; minima = n } }

-- the screen before
abbrev old : Screen Row
old = reset fresh-row (record { viewport = box 4 8 12 16; c = 7; d = 9; width = W128 })

abbrev plays : Place → List ℕ → Answer (Screen Row)
plays p ws = play (Screen Row) (call Row row-ops) (reset fresh-row) p old (in-one ws)

abbrev judged : List ℕ → ℕ
judged ws = (plays (lent 0 0 0) ws).number

-- an empty recording of a viewport, at the arenas that it needs
abbrev views-in : Mode → Box → ℕ
views-in m v =
    let q = asked 1 1 m in
    (plays (record { limit = 512; setup = q; arenas = needed (frame q v) }) (file One (rec v [] [] [] [] 0 0))).number

abbrev views : Box → ℕ
views = views-in exact

-- two paints, three segments, a draw, a layer and a node; no node is reached
abbrev holds : Paint → Segment → Draw → LayerRec → Node → ℕ → ℕ → ℕ
holds p s d l n a b =
    judged
    (file One
    (record {
      viewport = box 0 0 256 8;
      paints = opaque-paint ∷ p ∷ [];
      segments = solid 0 0 9 ∷ solid 0 8 12 ∷ s ∷ [];
      draws = d ∷ [];
      layers = l ∷ [];
      nodes = n ∷ [];
      start = a;
      end = b;
    }))

abbrev a-draw : Draw → ℕ
a-draw d = holds opaque-paint (solid 1 0 4) d (layer 0 0) (node 0 0 0) 0 0

abbrev a-node : Node → ℕ → ℕ → ℕ
a-node n a b = holds opaque-paint (solid 1 0 4) (draw 0 1) (layer 0 0) n a b

abbrev a-layer : LayerRec → ℕ
a-layer l = holds opaque-paint (solid 1 0 4) (draw 0 1) l (node 0 0 0) 0 0

-- a layer's kind, nodes, blend, mask, clip flag, clip and filter
abbrev layer-of : ℕ → ℕ → ℕ → Blend → ℕ → ℕ → Clip → Filter → ℕ
layer-of k a b bl m fl c f = a-layer (any-layer k a b bl full m fl c f)

abbrev clip-layer : ℕ → Clip → ℕ
clip-layer fl c = layer-of 0 0 0 default-blend 0 fl c no-filter

abbrev filter-layer : ℕ → Filter → ℕ
filter-layer k f = layer-of k 0 0 default-blend 0 0 no-clip f

pub record Judged : Type 0 where
  pub got : ℕ
  pub due : ℕ

infixl 70 ◌is◌
abbrev ◌is◌ : ℕ → ℕ → Judged
◌is◌ a b = record { got = a; due = b }

abbrev pub judgements : List Judged
judgements =
    -- 3: exactly the counted sections
    judged worked-words is Done
    ∷ judged (worked-words ++ (0 ∷ [])) is BadForm
    ∷ judged (take (length worked-words - 1) worked-words) is BadForm
    ∷ judged [] is BadForm
    ∷ judged (1 ∷ 0 ∷ 0 ∷ 256 ∷ 8 ∷ 0 ∷ 0 ∷ 0 ∷ 0 ∷ 0 ∷ 1 ∷ 0 ∷ 0 ∷ []) is Done
    ∷ judged (0 ∷ 0 ∷ 0 ∷ 0 ∷ 0 ∷ 0 ∷ 1 ∷ 0 ∷ 0 ∷ []) is BadForm
    ∷ judged (2 ∷ 0 ∷ 0 ∷ 256 ∷ 8 ∷ 0 ∷ 0 ∷ 256 ∷ 8 ∷ 0 ∷ 0 ∷ 0 ∷ 0 ∷ 0 ∷ 1 ∷ 0 ∷ 0 ∷ []) is BadForm
    ∷ judged (1 ∷ 0 ∷ 0 ∷ 256 ∷ 8 ∷ 0 ∷ 0 ∷ 0 ∷ 0 ∷ 0 ∷ 0 ∷ []) is BadForm
    ∷ judged (1 ∷ 0 ∷ 0 ∷ 256 ∷ 8 ∷ 0 ∷ 0 ∷ 0 ∷ 0 ∷ 0 ∷ 2 ∷ 0 ∷ 0 ∷ 0 ∷ 0 ∷ []) is BadForm
    ∷ judged (1 ∷ 0 ∷ 0 ∷ 256 ∷ 8 ∷ 1073741824 ∷ 0 ∷ 0 ∷ 0 ∷ 0 ∷ 1 ∷ 0 ∷ 0 ∷ []) is BadForm
    -- .. before 2
    ∷ judged (1 ∷ 2 ∷ 0 ∷ 256 ∷ 8 ∷ 0 ∷ 0 ∷ 0 ∷ 0 ∷ 0 ∷ 1 ∷ 0 ∷ 0 ∷ []) is BadViewport
    ∷ judged (1 ∷ 2 ∷ 0 ∷ 256 ∷ 8 ∷ 0 ∷ 0 ∷ 0 ∷ 0 ∷ 0 ∷ 1 ∷ 0 ∷ 0 ∷ 0 ∷ []) is BadForm
    -- 2, then 1, then 4
    ∷ views (box 28672 30720 32768 32768) is Done
    ∷ views (box 0 0 4100 8) is BadViewport
    ∷ views (box 8 8 8 8) is Done
    ∷ views (box 0 0 1366 768) is BadViewport
    ∷ views-in snapping (box 0 0 1366 768) is Done
    ∷ views-in snapping (box 3 0 4097 8) is BadViewport
    ∷ (plays (lent 1 0 0) worked-words).number is BadArena
    ∷ (plays (lent 0 1 0) worked-words).number is BadArena
    ∷ (plays (lent 0 0 1) worked-words).number is BadArena
    ∷ (plays (lent-minima 5) worked-words).number is BadArena
    ∷ (plays (lent-minima 6) worked-words).number is Done
    ∷ (plays (lent-minima 7) worked-words).number is BadArena
    ∷ (plays (lent-minima 7) (file One (rec (box 2 0 256 8) [] [] [] [] 0 0))).number is BadViewport
    ∷ (plays (lent-minima 7) (file One (rec (box 0 0 256 8) [] [] [] [] 1 0))).number is BadArena
    ∷ (plays (lent 1 0 0) (file One (rec (box 2 0 256 8) [] [] [] [] 0 0))).number is BadViewport
    ∷ (plays (lent 1 0 0) (file One (rec (box 0 0 256 8) [] [] [] [] 1 0))).number is BadArena
    ∷ (plays (lent 0 0 0) (file One (rec (box 0 0 256 8) [] [] [] [] 1 0))).number is BadRecord
    -- 4: every record, used or not
    ∷ a-draw (draw 0 1) is Done
    ∷ holds (record { opaque = 2; handle = 0 }) (solid 1 0 4) (draw 0 1) (layer 0 0) (node 0 0 0) 0 0 is BadRecord
    ∷ holds opaque-paint (solid 1 4 4) (draw 0 1) (layer 0 0) (node 0 0 0) 0 0 is BadRecord
    ∷ a-draw (draw 0 4) is BadRecord
    ∷ a-draw (draw 2 3) is Done
    ∷ layer-of 1 0 1 default-blend 0 0 no-clip no-filter is Done
    ∷ layer-of 2 0 1 default-blend 0 0 no-clip no-filter is BadRecord
    ∷ layer-of 1 0 2 default-blend 0 0 no-clip no-filter is BadRecord
    ∷ layer-of 1 1 0 default-blend 0 0 no-clip no-filter is BadRecord
    ∷ layer-of 0 0 1 (blend 16 3) 0 0 no-clip no-filter is BadRecord
    ∷ layer-of 0 0 1 default-blend 2147483648 0 no-clip no-filter is BadRecord
    ∷ layer-of 0 0 1 default-blend 0 2 no-clip no-filter is BadRecord
    ∷ clip-layer 1 (clip (box 0 0 4 4) 2 3 255) is Done
    ∷ clip-layer 1 (clip (box 0 0 4 4) 2 4 255) is BadRecord
    ∷ clip-layer 1 (clip (box 0 0 4 4) 2 3 256) is BadRecord
    -- .. fields of an absent clip
    ∷ clip-layer 0 (clip (box 4 0 0 0) 0 0 0) is BadRecord
    ∷ clip-layer 0 (clip (box 0 4 0 0) 0 0 0) is BadRecord
    ∷ clip-layer 0 (clip (box 0 0 4 0) 0 0 0) is BadRecord
    ∷ clip-layer 0 (clip (box 0 0 0 4) 0 0 0) is BadRecord
    ∷ clip-layer 0 (clip (box 0 0 0 0) 1 0 0) is BadRecord
    ∷ clip-layer 0 (clip (box 0 0 0 0) 0 1 0) is BadRecord
    ∷ clip-layer 0 (clip (box 0 0 0 0) 0 0 1) is BadRecord
    -- .. a filter layer's own fields, the last handle and no picture among them
    ∷ filter-layer 1 (filter 1 (box 0 3 4 5) 1 1) is Done
    ∷ filter-layer 1 (filter 2147483647 (box 0 3 4 5) 1 1) is Done
    ∷ filter-layer 1 (filter 2147483648 (box 0 3 4 5) 1 1) is BadRecord
    ∷ filter-layer 1 (pictureless (box 0 3 4 5) 1 1) is Done
    ∷ filter-layer 1 (pictureless (box 2 3 4 5) 1 1) is BadRecord
    ∷ filter-layer 1 (pictureless (box 0 3 4 5) 32769 1) is BadRecord
    ∷ filter-layer 1 (pictureless (box 0 3 4 5) 1 32769) is BadRecord
    -- .. filter fields of a regular layer
    ∷ filter-layer 0 (pictureless (box 0 0 0 0) 0 0) is Done
    ∷ filter-layer 0 (filter 0 (box 0 0 0 0) 0 0) is BadRecord
    ∷ filter-layer 0 (pictureless (box 0 0 4 0) 0 0) is BadRecord
    ∷ filter-layer 0 (pictureless (box 0 0 0 0) 1 0) is BadRecord
    ∷ filter-layer 0 (pictureless (box 0 0 0 0) 0 1) is BadRecord
    -- .. nodes and root
    ∷ a-node (node 0 1 1) 1 1 is Done
    ∷ a-node (node 0 2 1) 1 1 is BadRecord
    ∷ a-node (node 1 0 1) 1 1 is BadRecord
    ∷ a-node (node 0 1 2) 1 1 is BadRecord
    ∷ a-node (node 0 1 1) 0 2 is BadRecord
    ∷ a-node (node 0 1 1) 1 0 is BadRecord
    -- 5: a draw's list, a present clip's; 4 before it
    ∷ a-draw (draw 0 2) is BadOrder
    ∷ a-draw (draw 1 3) is Done
    ∷ clip-layer 1 (clip (box 0 0 4 4) 0 2 0) is BadOrder
    ∷ clip-layer 1 (clip (box 0 0 4 4) 1 3 0) is Done
    ∷ clip-layer 1 (clip (box 0 0 4 4) 0 2 256) is BadRecord
    ∷ []

pub all-judged : every (λ (t : Judged). eqb t.got t.due) judgements ≡ true
unfolding computing
all-judged = refl

-- Answer 1: rows x 4C, rows x 2D and rows x buckets words, and for a row of 3 buckets 7 minima.
pub arenas-needed : needed (record { viewport = box 0 0 260 8; c = 3; d = 5; width = W128 }) ≡ record { render = 24; fills = 20; depth = 6; minima = 14 }
unfolding computing
arenas-needed = refl

-- Refused with 1, 2 or 3 it leaves the screen before ..
pub left-by-3 : plays (lent 0 0 0) (worked-words ++ (0 ∷ [])) ≡ answer BadForm old
unfolding computing
left-by-3 = refl

pub left-by-2 : plays (lent 0 0 0) (file One (rec (box 2 0 256 8) [] [] [] [] 0 0)) ≡ answer BadViewport old
unfolding computing
left-by-2 = refl

pub left-by-1 : plays (lent 1 0 0) worked-words ≡ answer BadArena old
unfolding computing
left-by-1 = refl

-- .. with another number its own viewport, freshly reset: for a record, an order, a step that comes after others
abbrev reset-to : Screen Row
reset-to = reset fresh-row (record { viewport = box 0 0 256 8; c = 4; d = 5; width = W128 })

pub left-by-4 : plays (lent 0 0 0) (file One (rec (box 0 0 256 8) [] [] [] [] 1 0)) ≡ answer BadRecord reset-to
unfolding computing
left-by-4 = refl

pub left-by-5 : plays (lent 0 0 0) (file One (rec (box 0 0 256 8) (solid 0 0 9 ∷ solid 0 8 12 ∷ []) (draw 0 2 ∷ []) [] [] 0 0)) ≡ answer BadOrder reset-to
unfolding computing
left-by-5 = refl

-- A layer that reaches itself, after a draw: 6 at the 17th push, and nothing of the walk is kept.
pub left-by-6 :
    plays (record { limit = 512; setup = asked 64 5 exact; arenas = record { render = 512; fills = 20; depth = 4; minima = 6 } })
    (file One (rec (box 0 0 256 8) (solid 0 0 4 ∷ []) (draw 0 1 ∷ []) (layer 0 1 ∷ []) (node 0 1 1 ∷ []) 0 1)) ≡
    answer Deep (reset fresh-row (record { viewport = box 0 0 256 8; c = 64; d = 5; width = W128 }))
unfolding computing
left-by-6 = refl

-- `rowlist` takes 32 rows, and refuses 33 by 2, before a 4.
pub rows-32 : listed (file One (rec (box 0 0 4 128) [] [] [] [] 1 0)) ≡ refused 4 ∷ []
unfolding computing
rows-32 = refl

pub rows-33 : listed (file One (rec (box 0 0 4 132) [] [] [] [] 1 0)) ≡ refused 2 ∷ []
unfolding computing
rows-33 = refl

-- .. with `--snap` those of the snapped box: from 3 to 129 there are 33.
pub snapped-32 : listed-snapped (file One (rec (box 3 1 5 126) [] [] [] [] 1 0)) ≡ refused 4 ∷ []
unfolding computing
snapped-32 = refl

pub snapped-33 : listed-snapped (file One (rec (box 3 3 5 129) [] [] [] [] 1 0)) ≡ refused 2 ∷ []
unfolding computing
snapped-33 = refl

-- 16 layers, one in the other, and a filter layer in the last.
abbrev deep : LayerRec → Recording
deep l =
    rec (box 0 0 64 4) [] []
    (map (λ (i : ℕ). layer (i + 1) (i + 2)) (range 0 16) ++ (l ∷ []))
    (map (λ (i : ℕ). node 0 0 (i + 1)) (range 0 17))
    0
    1

-- One that needs no buffer is done with 16 open, and its fill touches the row for each; one that needs a buffer is the 17th: 6.
pub filter-16-deep : listed (file One (deep (filtered full 0 (filter 5 (box 0 0 32 4) 0 0)))) ≡
    header 1 1 17
    ∷ row 0 0 49
    ∷ (replicate 15 (B (Some (span 0 16))) ++ (B (Some (span 0 16)) ∷ P 0 8 None 0 ∷ join (λ (i : ℕ). L 0 16 None i ∷ E ∷ []) (range 0 16)))
unfolding computing
filter-16-deep = refl

pub buffer-17-deep : listed (file One (deep (filtered full 2 (filter 5 (box 0 0 32 4) 0 0)))) ≡ refused 6 ∷ []
unfolding computing
buffer-17-deep = refl
