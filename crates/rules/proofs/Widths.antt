-- Tests: what the width of a bucket changes, at 64 and 256 pixels. The other tests are at 128.
use Rattle.std.proofs.Common.{ℕ, ◌≡◌, refl, true, List, [], ◌∷◌, map, None, Some, Ok, Err}
use Rattle.sizes.specs.declared.answers.Refusal.TheVariants.{BadViewport}
use Rattle.sizes.specs.declared.width.Width.{Width}
use Rattle.sizes.specs.declared.width.Width.TheVariants.{W64, W128, W256}
use Rattle.sizes.specs.Widths.{bucket-tiles, width_of}
use Rattle.sizes.specs.declared.edition.Edition.TheVariants.{One}
use Rattle.rules.specs.Lists.{every}
use Rattle.rules.specs.Boxes.{box, buckets-of}
use Rattle.rules.specs.Spans.{span}
use Rattle.rules.specs.Split.{regular, buckets, split}
use Rattle.rules.specs.Rows.{fresh-row, put-depth-fill}
use Rattle.rules.specs.Plans.{Frame, a-fill}
use Rattle.rules.specs.Setups.{exact}
use Rattle.rules.specs.Painting.{Piece, paint-row}
use Rattle.rules.specs.Recording.{Recording, in-one}
use Rattle.rules.specs.Walk.{needed}
use Rattle.rules.specs.Lines.{Line, header, row, D, P, refused, usual, rowlist-words, rowlist-screen, no-width}
use Rattle.rules.specs.Calls.{Canvas, fresh-canvas, step_call, begin-call, paint-call, unset-call, visible-call}
use Rattle.rules.specs.Words.{file}
use Rattle.rules.specs.cases.Samples.{solid, opaque-paint, draw, paint-piece}
use Rattle.rules.proofs.Picture.{same-picture}
use Rattle.rules.specs.cases.WorkedExample.{worked-bytes}
use Rattle.rules.proofs.Cases.{last-bucket, pictured}
use Rattle.rules.proofs.Computing.{computing}

-- 64, 128 and 256 pixels, and no other number
pub widths-there : map width_of (64 ∷ 128 ∷ 256 ∷ []) ≡ Ok W64 ∷ Ok W128 ∷ Ok W256 ∷ []
widths-there = refl

pub no-widths : map width_of (0 ∷ 16 ∷ 32 ∷ 63 ∷ 65 ∷ 96 ∷ 127 ∷ 129 ∷ 192 ∷ 255 ∷ 257 ∷ 512 ∷ []) ≡ Err BadViewport ∷ Err BadViewport ∷ Err BadViewport ∷ Err BadViewport ∷ Err BadViewport ∷ Err BadViewport ∷ Err BadViewport ∷ Err BadViewport ∷ Err BadViewport ∷ Err BadViewport ∷ Err BadViewport ∷ Err BadViewport ∷ []
no-widths = refl

-- buckets of 260 pixels; arenas of two rows of them at C = 3 and D = 5
pub buckets-there : map (λ (w : ℕ). buckets-of w (box 0 0 260 4)) (16 ∷ 32 ∷ 64 ∷ []) ≡ 5 ∷ 3 ∷ 2 ∷ []
buckets-there = refl

abbrev two-rows : Width → Frame
two-rows w = record { viewport = box 0 0 260 8; c = 3; d = 5; width = w }

pub arenas-at-64 : needed (two-rows W64) ≡ record { render = 24; fills = 20; depth = 10; minima = 30 }
unfolding computing
arenas-at-64 = refl

pub arenas-at-256 : needed (two-rows W256) ≡ record { render = 24; fills = 20; depth = 4; minima = 6 }
unfolding computing
arenas-at-256 = refl

-- rule 7
pub split-at-64 :
    map (split 16) (span 1 31 ∷ span 1 32 ∷ span 16 33 ∷ span 15 48 ∷ []) ≡
    (regular (span 1 31) ∷ [])
    ∷ (regular (span 1 16) ∷ buckets (span 1 2) ∷ [])
    ∷ (buckets (span 1 2) ∷ regular (span 32 33) ∷ [])
    ∷ (regular (span 15 16) ∷ buckets (span 1 3) ∷ [])
    ∷ []
unfolding computing
split-at-64 = refl

pub split-at-256 :
    map (split 64) (span 1 127 ∷ span 1 128 ∷ span 64 129 ∷ span 63 192 ∷ []) ≡
    (regular (span 1 127) ∷ [])
    ∷ (regular (span 1 64) ∷ buckets (span 1 2) ∷ [])
    ∷ (buckets (span 1 2) ∷ regular (span 128 129) ∷ [])
    ∷ (regular (span 63 64) ∷ buckets (span 1 3) ∷ [])
    ∷ []
unfolding computing
split-at-256 = refl

-- the summary has the tiles of the fill's own buckets
pub summaries : map (λ (w : ℕ). (put-depth-fill w (record { buckets = span 1 3; attribute = 0 }) 7 fresh-row).depth.union) (16 ∷ 64 ∷ []) ≡ Some (span 16 48) ∷ Some (span 64 192) ∷ []
unfolding computing
summaries = refl

-- A screen that ends at tile 50: the whole buckets before it are depth fills, those of 64 pixels up to tile 48, none of 256.
abbrev listed_at : Width → Recording → List Line
listed_at w r = rowlist-words (usual exact w) (in-one (file One r))

pub lines-at-64 : listed_at W64 last-bucket ≡ header 1 4 2 ∷ row 0 1 2 ∷ D 0 3 1 ∷ P 20 50 (Some 32) 0 ∷ P 48 50 None 1 ∷ []
unfolding computing
lines-at-64 = refl

pub lines-at-256 : listed_at W256 last-bucket ≡ header 1 1 2 ∷ row 0 0 2 ∷ P 20 50 (Some 32) 0 ∷ P 0 50 None 1 ∷ []
unfolding computing
lines-at-256 = refl

abbrev pieces-at : Width → Recording → List (List Piece)
pieces-at w r =
    let s = (rowlist-screen (usual exact w) (in-one (file One r))).value in
    map (paint-row (bucket-tiles w) s.state.attrs (buckets-of (bucket-tiles w) r.viewport)) s.rows

pub pieces-at-64 : pieces-at W64 last-bucket ≡ (paint-piece 1 0 48 None 0 ∷ paint-piece 0 48 50 (Some 480) 0 ∷ paint-piece 1 48 50 None 0 ∷ []) ∷ []
unfolding computing
pieces-at-64 = refl

pub pieces-at-256 : pieces-at W256 last-bucket ≡ (paint-piece 0 20 50 (Some 32) 0 ∷ paint-piece 1 0 50 None 0 ∷ []) ∷ []
unfolding computing
pieces-at-256 = refl

-- a row of four buckets of 64 pixels, the second of them filled and painted: the calls look at the same buckets
abbrev second-filled : Canvas
second-filled =
    let k = fresh-canvas (record { viewport = box 0 0 256 4; c = 4; d = 4; width = W64 }) in
    let f = a-fill (opaque-paint ∷ []) (solid 0 16 32 ∷ []) (draw 0 1) in
    (paint-call 0 9 (begin-call (step_call f k).value).value).value.canvas

pub unset-at-64 : (unset-call 0 9 (span 0 64) second-filled).value ≡ span 0 16 ∷ span 32 64 ∷ []
unfolding computing
unset-at-64 = refl

pub visible-at-64 : (visible-call 0 0 9 (span 10 40) second-filled).value ≡ span 10 16 ∷ span 32 40 ∷ []
unfolding computing
visible-at-64 = refl

-- Painting gives each tile what plain draw order gives it, at these widths too.
pub same-pictures-at-64 : every (same-picture W64) pictured ≡ true
unfolding computing
same-pictures-at-64 = refl

pub same-pictures-at-256 : every (same-picture W256) pictured ≡ true
unfolding computing
same-pictures-at-256 = refl

-- a program that is asked for another width: 2, after 3
pub refused-by-2 : no-width One worked-bytes ≡ refused 2 ∷ []
unfolding computing
refused-by-2 = refl

pub refused-by-3 : no-width One [] ∷ no-width One (1 ∷ []) ∷ no-width One (1 ∷ 0 ∷ 0 ∷ 0 ∷ []) ∷ [] ≡ (refused 3 ∷ []) ∷ (refused 3 ∷ []) ∷ (refused 3 ∷ []) ∷ []
unfolding computing
refused-by-3 = refl
