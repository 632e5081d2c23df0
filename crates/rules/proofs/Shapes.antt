-- Tests: boxes, spans, segments, runs, words and text by their numbers, each axis and each end apart from the others.
use Rattle.std.proofs.Common.{◌≡◌, refl, [], ◌∷◌, map, None, Some}
use Rattle.rules.specs.Boxes.{box, width, height, meet, to-local, whole, rows_of, buckets-of, rows_in, span_of, scene-tiles}
use Rattle.rules.specs.Spans.{span, hull, meeting, solid-tiles}
use Rattle.rules.specs.Split.{regular, buckets, split}
use Rattle.rules.specs.Segments.{cuts}
use Rattle.rules.specs.Depth.{unset-runs, visible-runs, write-runs, written, write-after}
use Rattle.rules.specs.Commands.{paint-fill, layer-fill, push-buf, pop-buf, command_words, depth-words}
use Rattle.rules.specs.Lines.{P, B, refused, words_of, line-bytes}
use Rattle.rules.specs.Lists.{join}
use Rattle.rules.specs.cases.Samples.{solid, alpha}
use Rattle.rules.proofs.Computing.{computing}

-- boxes
pub sides : width (box 4 8 104 208) ∷ height (box 4 8 104 208) ∷ [] ≡ 100 ∷ 200 ∷ []
sides = refl

pub met : meet (box 1 20 300 4000) (box 10 2 3000 400) ≡ box 10 20 300 400
met = refl

pub met-again : meet (box 10 2 3000 400) (box 1 20 300 4000) ≡ box 10 20 300 400
met-again = refl

-- made local: each axis by its own origin, and the subtraction stops at 0
pub local : to-local (box 10 20 30 40) (box 11 22 33 44) ≡ box 1 2 23 24
local = refl

pub local-stops : to-local (box 10 20 30 40) (box 1 2 33 4) ≡ box 0 0 23 0
local-stops = refl

pub whole-screen : whole (box 4 8 104 208) ≡ box 0 0 100 200
whole-screen = refl

pub rows-there : rows_of (box 4 8 104 208) ≡ 50
rows-there = refl

-- width / 128, rounded up
pub buckets-there : map (buckets-of 32) (box 0 0 0 4 ∷ box 0 0 4 4 ∷ box 128 0 256 4 ∷ box 0 0 132 4 ∷ []) ≡ 0 ∷ 1 ∷ 1 ∷ 2 ∷ []
buckets-there = refl

-- every row that a box meets, in part too
pub rows-met : rows_in (box 0 4 4 8) ∷ rows_in (box 0 7 4 9) ∷ rows_in (box 0 8 4 8) ∷ [] ≡ (1 ∷ []) ∷ (1 ∷ 2 ∷ []) ∷ [] ∷ []
rows-met = refl

-- an empty box's span starts at its x0 and has width 0
pub spans-there : span_of (box 4 8 16 20) ∷ span_of (box 8 8 8 20) ∷ span_of (box 8 8 16 8) ∷ [] ≡ span 1 4 ∷ span 2 2 ∷ span 2 2 ∷ []
unfolding computing
spans-there = refl

pub scene : scene-tiles (box 40 80 100 100) (box 4 8 16 20) ≡ box 11 22 14 25
unfolding computing
scene = refl

-- spans
pub hulls : hull None (span 3 5) ∷ hull (Some (span 3 5)) (span 1 4) ∷ hull (Some (span 3 5)) (span 7 9) ∷ [] ≡ span 3 5 ∷ span 1 5 ∷ span 3 9 ∷ []
hulls = refl

pub meetings : meeting (span 3 9) (span 5 20) ∷ meeting (span 5 20) (span 3 9) ∷ meeting (span 3 5) (span 5 9) ∷ [] ≡ Some (span 5 9) ∷ Some (span 5 9) ∷ None ∷ []
unfolding computing
meetings = refl

-- rule 4: a cut at the left moves the alpha index by 16 a tile, one at the right does not; on each side of the clip box nothing is left
pub cut-tiles :
    cuts (box 40 80 100 100) (box 4 8 16 20)
    (alpha 21 0 99 7 ∷ alpha 22 5 13 7 ∷ alpha 22 13 99 7 ∷ solid 23 12 13 ∷ solid 23 14 15 ∷ solid 24 5 11 ∷ solid 24 0 99 ∷ solid 25 0 99 ∷ []) ≡
    record { row = 2; stretch = record { tiles = span 1 3; alpha = Some 103 } }
    ∷ record { row = 2; stretch = record { tiles = span 3 4; alpha = Some 7 } }
    ∷ record { row = 3; stretch = solid-tiles (span 2 3) }
    ∷ record { row = 4; stretch = solid-tiles (span 1 4) }
    ∷ []
unfolding computing
cut-tiles = refl

-- rule 7
pub splits :
    map (split 32) (span 1 63 ∷ span 1 64 ∷ span 32 65 ∷ span 31 96 ∷ []) ≡
    (regular (span 1 63) ∷ [])
    ∷ (regular (span 1 32) ∷ buckets (span 1 2) ∷ [])
    ∷ (buckets (span 1 2) ∷ regular (span 64 65) ∷ [])
    ∷ (regular (span 31 32) ∷ buckets (span 1 3) ∷ [])
    ∷ []
unfolding computing
splits = refl

-- runs: maximal, cut to the span at both ends, the buckets past the buffer ignored
pub unset : unset-runs 32 (0 ∷ 0 ∷ 9 ∷ 0 ∷ []) (span 33 300) ≡ span 33 64 ∷ span 96 128 ∷ []
unfolding computing
unset = refl

pub visible : visible-runs 32 (5 ∷ 6 ∷ 7 ∷ 0 ∷ []) 6 (span 1 100) ≡ span 1 64 ∷ span 96 100 ∷ []
unfolding computing
visible = refl

pub none-wide : unset-runs 32 (0 ∷ 0 ∷ []) (span 40 40) ≡ []
unfolding computing
none-wide = refl

-- the writing form lists ranges of buckets, and stores the id where 0 stood in the range
pub writes-listed : write-runs (0 ∷ 0 ∷ 9 ∷ 0 ∷ 0 ∷ []) (span 1 4) ≡ span 1 2 ∷ span 3 4 ∷ []
unfolding computing
writes-listed = refl

pub writes-stored : written (0 ∷ 0 ∷ 9 ∷ 0 ∷ 0 ∷ []) 5 (span 1 4) ≡ 0 ∷ 5 ∷ 9 ∷ 5 ∷ 0 ∷ []
unfolding computing
writes-stored = refl

pub writes-when-done : (write-after (0 ∷ 0 ∷ []) 5 (span 0 2) 1) ∷ (write-after (0 ∷ 0 ∷ []) 5 (span 0 2) 0) ∷ (write-after (0 ∷ 0 ∷ []) 0 (span 0 2) 1) ∷ [] ≡ (5 ∷ 5 ∷ []) ∷ (0 ∷ 0 ∷ []) ∷ (0 ∷ 0 ∷ []) ∷ []
unfolding computing
writes-when-done = refl

-- the words of commands and of a depth fill
pub words :
    map command_words
    (paint-fill (span 1 2) None 9 ∷ paint-fill (span 1 2) (Some 5) 9 ∷ layer-fill (span 3 4) None 8 ∷ layer-fill (span 3 4) (Some 6) 8 ∷ push-buf None ∷ push-buf (Some (span 3 4)) ∷ pop-buf ∷ []) ≡
    (1 ∷ 65538 ∷ 0 ∷ 9 ∷ [])
    ∷ (2 ∷ 65538 ∷ 5 ∷ 9 ∷ [])
    ∷ (3 ∷ 196612 ∷ 0 ∷ 8 ∷ [])
    ∷ (4 ∷ 196612 ∷ 6 ∷ 8 ∷ [])
    ∷ (5 ∷ 0 ∷ 0 ∷ 0 ∷ [])
    ∷ (6 ∷ 196612 ∷ 0 ∷ 0 ∷ [])
    ∷ (7 ∷ 0 ∷ 0 ∷ 0 ∷ [])
    ∷ []
unfolding computing
words = refl

pub fill-words : depth-words (record { buckets = span 1 2; attribute = 9 }) ≡ 65538 ∷ 9 ∷ []
unfolding computing
fill-words = refl

-- A file's bytes: four make a word, the first the least; what is left over makes none.
pub little_endian : words_of (1 ∷ 2 ∷ 3 ∷ 4 ∷ 255 ∷ 0 ∷ 0 ∷ 0 ∷ []) ≡ Some (67305985 ∷ 255 ∷ [])
little_endian = refl

pub bytes_left : words_of (1 ∷ []) ∷ words_of (1 ∷ 2 ∷ []) ∷ words_of (1 ∷ 2 ∷ 3 ∷ []) ∷ words_of (1 ∷ 2 ∷ 3 ∷ 4 ∷ 5 ∷ []) ∷ [] ≡ None ∷ None ∷ None ∷ None ∷ []
bytes_left = refl

-- "refused 14", "B - -" and "P 0 1 4294967279 1023", each with its line feed
pub lines-text :
    join line-bytes (refused 14 ∷ B None ∷ P 0 1 (Some 4294967279) 1023 ∷ []) ≡
    114 ∷ 101 ∷ 102 ∷ 117 ∷ 115 ∷ 101 ∷ 100 ∷ 32 ∷ 49 ∷ 52 ∷ 10 ∷ 66 ∷ 32 ∷ 45 ∷ 32 ∷ 45 ∷ 10
    ∷ 80 ∷ 32 ∷ 48 ∷ 32 ∷ 49 ∷ 32 ∷ 52 ∷ 50 ∷ 57 ∷ 52 ∷ 57 ∷ 54 ∷ 55 ∷ 50 ∷ 55 ∷ 57 ∷ 32 ∷ 49 ∷ 48 ∷ 50 ∷ 51 ∷ 10 ∷ []
unfolding computing
lines-text = refl
