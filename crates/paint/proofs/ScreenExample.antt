-- Tests: the rules' worked example painted to its end, its two rows by turns, by computation. Assumes nothing.
use Rattle.std.proofs.Common.{◌≡◌, refl, Bool, true, false, List, [], ◌∷◌, ◌++◌, ℕ, ◌+◌, ◌-◌, ◌*◌, replicate, take}
use Rattle.sizes.specs.Sizes.{paint-attr-size, paint-attr-table, layer-attr-size, layer-attr-table, piece-size}
use Rattle.sizes.specs.declared.width.Width.TheVariants.{W128}
use Rattle.rules.specs.Boxes.{good_viewport}
use Rattle.cmd.specs.Reading.{command_of, depth_fill_of}
use Rattle.rules.specs.Depth.{can_skip, bucket-runs, runs-in, runs, visible-runs, write-runs, written}
use Rattle.rules.specs.Painting.{paint-depth, paint-command}
use Rattle.rect.specs.declared.Rect.{Rect}
use Rattle.rect.specs.Rects.{box_of}
use Rattle.screen.specs.declared.Screen.{Screen}
use Rattle.screen.specs.Screens.{good_clip, good_screen, screen-in}
use Rattle.rules.specs.Minima.{size, half, halvings, minima-room, mended, mended-runs}
use Rattle.screen.specs.Depths.{depths}
use Rattle.paint.specs.Summaries.{shown_runs}
use Rattle.paint.specs.Painting.{attrs-at, words_lent, StepOut, out, settled, fill-shown, command-shown, depth-step, command-step, fill-minima, next-step, next-minima, painted-row}
use Rattle.paint.specs.Judging.{judged, step_number}
use Rattle.paint.specs.Stepping.{Attributes, attributes, row_step, stepped}

-- a viewport of 256 x 8 pixels: two rows of two buckets of 128 pixels, with room for four commands and one depth fill
whole : Rect
whole = record { x0 = 0; y0 = 0; x1 = 256; y1 = 8 }

screen : Bool → Screen
screen b = screen-in (record { viewport = box_of whole; c = 4; d = 1; width = W128 }) whole 4 2 1 0 0 b

-- two draws with the ids 1 and 2 and the panels 4 and 5, and a layer with the id 3 and the panel 255
tables : Attributes
tables =
    attributes (0 ∷ 0 ∷ 3 ∷ 0 ∷ 1 ∷ 0 ∷ 0 ∷ 0 ∷ 4 ∷ 0 ∷ 0 ∷ 3 ∷ 0 ∷ 2 ∷ 0 ∷ 0 ∷ 0 ∷ 5 ∷ replicate (paint-attr-table - 2 * paint-attr-size) 0)
    (0 ∷ 3 ∷ 0 ∷ 3 ∷ 0 ∷ 0 ∷ 255 ∷ replicate (layer-attr-table - layer-attr-size) 0)

-- row 0 has a depth fill of bucket 1 and a fill of tiles 10 to 32; row 1 a buffer with two fills
records : List ℕ
records = (1 ∷ 1 ∷ 32 ∷ 64 ∷ 1 ∷ replicate 49 0) ++ (4 ∷ replicate 53 0)

commands : List ℕ
commands =
    (1 ∷ 655392 ∷ 0 ∷ 0 ∷ replicate 12 0)
    ++ (6 ∷ 64 ∷ 0 ∷ 0 ∷ 1 ∷ 8 ∷ 0 ∷ 1 ∷ 3 ∷ 64 ∷ 0 ∷ 0 ∷ 7 ∷ 0 ∷ 0 ∷ 0 ∷ [])

-- one step of row r, into a list with room for one piece, after what an earlier step left
turn : Bool → ℕ → StepOut → StepOut
turn b r o =
    stepped (screen b) r tables
    (words_lent records commands (65538 ∷ 0 ∷ 0 ∷ 0 ∷ []) o.depth o.painting (replicate (piece-size + 1) 9))

start : StepOut
start = out (record { number = 0; finished = false; pieces = 0 }) (depths (0 ∷ 0 ∷ 0 ∷ 0 ∷ []) (0 ∷ 0 ∷ 0 ∷ 0 ∷ 0 ∷ 0 ∷ [])) (0 ∷ 0 ∷ 0 ∷ 0 ∷ []) []

-- what the steps of these rows answer, with the pieces that they list
pub record Told : Type 0 where
  pub number : ℕ
  pub finished : Bool
  pub pieces : List ℕ

told : StepOut → Told
told o = record { number = o.answer.number; finished = o.answer.finished; pieces = take (piece-size * o.answer.pieces) o.list }

says : ℕ → Bool → List ℕ → Told
says n b ps = record { number = n; finished = b; pieces = ps }

turns : Bool → List ℕ → StepOut → List Told
turns b [] o = []
turns b (r ∷ rs) o = let p = turn b r o in told p ∷ turns b rs p

by-turns : turns true (0 ∷ 1 ∷ 0 ∷ 1 ∷ 0 ∷ 1 ∷ 1 ∷ 1 ∷ []) start
    ≡ says 0 false (1 ∷ 0 ∷ 32 ∷ 64 ∷ 0 ∷ 0 ∷ 4 ∷ [])
    ∷ says 0 false []
    ∷ says 0 false (1 ∷ 0 ∷ 10 ∷ 32 ∷ 0 ∷ 0 ∷ 4 ∷ [])
    ∷ says 0 false (1 ∷ 1 ∷ 0 ∷ 8 ∷ 0 ∷ 1 ∷ 5 ∷ [])
    ∷ says 0 true []
    ∷ says 0 false (3 ∷ 0 ∷ 0 ∷ 64 ∷ 0 ∷ 1 ∷ 255 ∷ [])
    ∷ says 0 false []
    ∷ says 0 true []
    ∷ []
unfolding whole screen tables records commands turn start told says turns stepped row_step judged step_number good_viewport good_screen good_clip minima-room attrs-at painted-row next-step next-minima fill-minima mended-runs mended halvings half size depth-step command-step command-shown fill-shown shown_runs can_skip settled paint-depth paint-command depth_fill_of command_of written write-runs visible-runs runs runs-in bucket-runs
by-turns = refl

-- no third row; painting not begun
refusals : turns true (2 ∷ []) start ++ turns false (0 ∷ 2 ∷ []) start ≡ says 12 false [] ∷ says 13 false [] ∷ says 12 false [] ∷ []
unfolding whole screen tables records commands turn start told says turns stepped row_step judged step_number good_viewport good_screen good_clip minima-room attrs-at painted-row next-step next-minima fill-minima mended-runs mended halvings half size depth-step command-step command-shown fill-shown shown_runs can_skip settled paint-depth paint-command depth_fill_of command_of written write-runs visible-runs runs runs-in bucket-runs
refusals = refl
