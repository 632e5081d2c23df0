-- Tests: steps of rows, by computation: what the definition says of small words. Assumes nothing.
use Rattle.std.proofs.Common.{◌≡◌, refl, true, false, List, [], ◌∷◌, None, Some, ℕ, zero, suc, ◌<◌, arith, get_or}
use Rattle.sizes.specs.declared.width.Width.TheVariants.{W128}
use Rattle.sizes.specs.Widths.{bucket-tiles}
use Rattle.rules.specs.Spans.{span}
use Rattle.rules.specs.Rows.{Row}
use Rattle.rules.specs.Attributes.{Attrs}
use Rattle.rules.specs.Commands.{paint-fill, pop-buf}
use Rattle.cmd.specs.Reading.{command_of, depth_fill_of}
use Rattle.rules.specs.Depth.{no-depth, can_skip, bucket-runs, runs-in, runs, visible-runs, write-runs, written}
use Rattle.rules.specs.Painting.{no-fill, paint-depth, paint-command}
use Rattle.paint.specs.Answers.{Painted}
use Rattle.rules.specs.Minima.{size, half, halvings, mended, mended-runs}
use Rattle.screen.specs.Depths.{depths}
use Rattle.paint.specs.Painting.{paint-with, attrs-at, painter-at, good-paint, command-at, depth-fill-at, words_lent, StepOut, out, refused, settled, fill-shown, command-shown, depth-step, command-step, fill-minima, next-step, next-minima, painted-row}
use Rattle.paint.specs.Summaries.{shown_runs}
use Rattle.paint.specs.Standing.{Stands, PainterReady}

-- one paint attribute and one layer attribute, with the ids 1 and 2 and the panels 5 and 6
attrs : Attrs
attrs = attrs-at (0 ∷ 0 ∷ 3 ∷ 0 ∷ 1 ∷ 0 ∷ 0 ∷ 0 ∷ 5 ∷ []) 1 (0 ∷ 3 ∷ 0 ∷ 2 ∷ 0 ∷ 0 ∷ 6 ∷ []) 1

told : ℕ → Painted
told n = record { number = 0; finished = false; pieces = n }

-- the rules' worked example, row 0: a depth fill of bucket 1, and tiles 10 to 32 beside it
row : List ℕ → List ℕ → List ℕ → List ℕ → StepOut
row d m p l = painted-row (bucket-tiles W128) attrs (words_lent (1 ∷ 1 ∷ []) (1 ∷ 655392 ∷ 0 ∷ 0 ∷ []) (65538 ∷ 0 ∷ []) (depths d m) p l)

first : row (0 ∷ 0 ∷ []) (0 ∷ 0 ∷ 0 ∷ []) (0 ∷ 0 ∷ []) (9 ∷ 9 ∷ 9 ∷ 9 ∷ 9 ∷ 9 ∷ 9 ∷ 9 ∷ [])
    ≡ out (told 1) (depths (0 ∷ 1 ∷ []) (0 ∷ 0 ∷ 1 ∷ [])) (1 ∷ 0 ∷ []) (1 ∷ 0 ∷ 32 ∷ 64 ∷ 0 ∷ 0 ∷ 5 ∷ 9 ∷ [])
unfolding attrs row told attrs-at painted-row next-step next-minima fill-minima mended-runs mended halvings half size depth-step command-step settled paint-depth paint-command command-shown fill-shown shown_runs can_skip depth_fill_of command_of written write-runs visible-runs runs runs-in bucket-runs
first = refl

second : row (0 ∷ 1 ∷ []) (0 ∷ 0 ∷ 1 ∷ []) (1 ∷ 0 ∷ []) (9 ∷ 9 ∷ 9 ∷ 9 ∷ 9 ∷ 9 ∷ 9 ∷ 9 ∷ [])
    ≡ out (told 1) (depths (0 ∷ 1 ∷ []) (0 ∷ 0 ∷ 1 ∷ [])) (2 ∷ 0 ∷ []) (1 ∷ 0 ∷ 10 ∷ 32 ∷ 0 ∷ 0 ∷ 5 ∷ 9 ∷ [])
unfolding attrs row told attrs-at painted-row next-step next-minima fill-minima mended-runs mended halvings half size depth-step command-step settled paint-depth paint-command command-shown fill-shown shown_runs can_skip depth_fill_of command_of written write-runs visible-runs runs runs-in bucket-runs
second = refl

-- then it is finished, also without a list
third : row (0 ∷ 1 ∷ []) (0 ∷ 0 ∷ 1 ∷ []) (2 ∷ 0 ∷ []) [] ≡ out (record { number = 0; finished = true; pieces = 0 }) (depths (0 ∷ 1 ∷ []) (0 ∷ 0 ∷ 1 ∷ [])) (2 ∷ 0 ∷ []) []
unfolding attrs row told attrs-at painted-row next-step next-minima fill-minima mended-runs mended halvings half size depth-step command-step settled paint-depth paint-command command-shown fill-shown shown_runs can_skip depth_fill_of command_of written write-runs visible-runs runs runs-in bucket-runs
third = refl

-- a list that is too short; a nesting and a number of steps that no row has
short : row (0 ∷ 0 ∷ []) (0 ∷ 0 ∷ 0 ∷ []) (0 ∷ 0 ∷ []) (9 ∷ 9 ∷ 9 ∷ 9 ∷ 9 ∷ 9 ∷ []) ≡ out (refused 14) (depths (0 ∷ 0 ∷ []) (0 ∷ 0 ∷ 0 ∷ [])) (0 ∷ 0 ∷ []) (9 ∷ 9 ∷ 9 ∷ 9 ∷ 9 ∷ 9 ∷ [])
unfolding attrs row told attrs-at painted-row next-step next-minima fill-minima mended-runs mended halvings half size depth-step command-step settled paint-depth paint-command command-shown fill-shown shown_runs can_skip depth_fill_of command_of written write-runs visible-runs runs runs-in bucket-runs
short = refl

deep : row (0 ∷ 0 ∷ []) (0 ∷ 0 ∷ 0 ∷ []) (0 ∷ 17 ∷ []) [] ≡ out (refused 4) (depths (0 ∷ 0 ∷ []) (0 ∷ 0 ∷ 0 ∷ [])) (0 ∷ 17 ∷ []) []
unfolding attrs row told attrs-at painted-row next-step next-minima fill-minima mended-runs mended halvings half size depth-step command-step settled paint-depth paint-command command-shown fill-shown shown_runs can_skip depth_fill_of command_of written write-runs visible-runs runs runs-in bucket-runs
deep = refl

past : row (0 ∷ 0 ∷ []) (0 ∷ 0 ∷ 0 ∷ []) (3 ∷ 0 ∷ []) [] ≡ out (refused 4) (depths (0 ∷ 0 ∷ []) (0 ∷ 0 ∷ 0 ∷ [])) (3 ∷ 0 ∷ []) []
unfolding attrs row told attrs-at painted-row next-step next-minima fill-minima mended-runs mended halvings half size depth-step command-step settled paint-depth paint-command command-shown fill-shown shown_runs can_skip depth_fill_of command_of written write-runs visible-runs runs runs-in bucket-runs
past = refl

-- an alpha fill of the layer over tiles 10 to 100, at nesting 2, where bucket 1 holds the larger id 7: its index moves by 16 a tile
alpha : painted-row (bucket-tiles W128) attrs (words_lent (1 ∷ 0 ∷ 32 ∷ 64 ∷ 7 ∷ []) (4 ∷ 655460 ∷ 5 ∷ 0 ∷ []) [] (depths (0 ∷ 7 ∷ 0 ∷ 0 ∷ []) (0 ∷ 0 ∷ 0 ∷ 7 ∷ 0 ∷ 0 ∷ 0 ∷ [])) (0 ∷ 2 ∷ []) (9 ∷ 9 ∷ 9 ∷ 9 ∷ 9 ∷ 9 ∷ 9 ∷ 9 ∷ 9 ∷ 9 ∷ 9 ∷ 9 ∷ 9 ∷ 9 ∷ []))
    ≡ out (told 2) (depths (0 ∷ 7 ∷ 0 ∷ 0 ∷ []) (0 ∷ 0 ∷ 0 ∷ 7 ∷ 0 ∷ 0 ∷ 0 ∷ [])) (1 ∷ 2 ∷ []) (4 ∷ 0 ∷ 10 ∷ 32 ∷ 5 ∷ 2 ∷ 6 ∷ 4 ∷ 0 ∷ 64 ∷ 100 ∷ 869 ∷ 2 ∷ 6 ∷ [])
unfolding attrs row told attrs-at painted-row next-step next-minima fill-minima mended-runs mended halvings half size depth-step command-step settled paint-depth paint-command command-shown fill-shown shown_runs can_skip depth_fill_of command_of written write-runs visible-runs runs runs-in bucket-runs
alpha = refl

-- the largest panel and the number after it, which no panel has: of a depth fill, of a fill, of a layer's fill
panelled : ℕ → List ℕ → List ℕ → List ℕ → List ℕ → StepOut
panelled q s re fi p =
    painted-row (bucket-tiles W128) (attrs-at (0 ∷ 0 ∷ 3 ∷ 0 ∷ 1 ∷ 0 ∷ 0 ∷ 0 ∷ q ∷ []) 1 (0 ∷ 3 ∷ 0 ∷ 2 ∷ 0 ∷ 0 ∷ q ∷ []) 1)
    (words_lent s re fi (depths (0 ∷ 0 ∷ []) (0 ∷ 0 ∷ 0 ∷ [])) p [])

no-panel : ((panelled 256 (1 ∷ 1 ∷ []) (1 ∷ 655392 ∷ 0 ∷ 0 ∷ []) (65538 ∷ 0 ∷ []) (0 ∷ 0 ∷ [])).answer ≡ refused 4)
    × ((panelled 256 (1 ∷ 1 ∷ []) (1 ∷ 655392 ∷ 0 ∷ 0 ∷ []) (65538 ∷ 0 ∷ []) (1 ∷ 0 ∷ [])).answer ≡ refused 4)
    × ((panelled 256 (1 ∷ 0 ∷ []) (3 ∷ 655392 ∷ 0 ∷ 0 ∷ []) [] (0 ∷ 0 ∷ [])).answer ≡ refused 4)
unfolding panelled attrs-at painted-row next-step next-minima fill-minima mended-runs mended halvings half size depth-step command-step settled paint-depth paint-command command-shown fill-shown shown_runs can_skip depth_fill_of command_of written write-runs visible-runs runs runs-in bucket-runs
no-panel = (refl, refl, refl)

last-panel : ((panelled 255 (1 ∷ 1 ∷ []) (1 ∷ 655392 ∷ 0 ∷ 0 ∷ []) (65538 ∷ 0 ∷ []) (0 ∷ 0 ∷ [])).answer ≡ refused 14)
    × ((panelled 255 (1 ∷ 1 ∷ []) (1 ∷ 655392 ∷ 0 ∷ 0 ∷ []) (65538 ∷ 0 ∷ []) (1 ∷ 0 ∷ [])).answer ≡ refused 14)
    × ((panelled 255 (1 ∷ 0 ∷ []) (3 ∷ 655392 ∷ 0 ∷ 0 ∷ []) [] (0 ∷ 0 ∷ [])).answer ≡ refused 14)
unfolding panelled attrs-at painted-row next-step next-minima fill-minima mended-runs mended halvings half size depth-step command-step settled paint-depth paint-command command-shown fill-shown shown_runs can_skip depth_fill_of command_of written write-runs visible-runs runs runs-in bucket-runs
last-panel = (refl, refl, refl)

-- the example's words stand for its row, so that the laws on such rows speak of it
known : Attrs
known = record { paints = paint-with 1 5 ∷ []; layers = []; filters = [] }

on_row : Row
on_row =
    record {
      commands = paint-fill (span 10 32) None 0 ∷ [];
      fills = record { buckets = span 1 2; attribute = 0 } ∷ [];
      levels = [];
      depth = no-depth;
    }

stands : Stands known 2 on_row (1 ∷ 1 ∷ []) (1 ∷ 655392 ∷ 0 ∷ 0 ∷ []) (65538 ∷ 0 ∷ [])
unfolding known on_row command_of depth_fill_of
stands =
    record {
      renders = refl;
      depths = refl;
      few-renders = omega arith;
      few-depths = omega arith;
      commands-at = commands;
      fills-at = fills;
      summary = refl;
      good-fills = good;
    }
  where
    commands : (k : ℕ) → k < 1 → command-at (1 ∷ 655392 ∷ 0 ∷ 0 ∷ []) k ≡ Some (get_or on_row.commands k pop-buf)
    commands zero h = refl
    commands (suc k) h = absurd (omega arith)

    fills : (k : ℕ) → k < 1 → depth-fill-at 2 (65538 ∷ 0 ∷ []) k ≡ Some (get_or on_row.fills k no-fill)
    fills zero h = refl
    fills (suc k) h = absurd (omega arith)

    good : (k : ℕ) → k < 1 → good-paint known (get_or on_row.fills k no-fill).attribute ≡ true
    good zero h = refl
    good (suc k) h = absurd (omega arith)

ready : PainterReady known on_row (painter-at (0 ∷ 1 ∷ []) (1 ∷ 0 ∷ []))
unfolding known on_row
ready = record { steps-left = omega arith; shallow = omega arith; good-next = λ h g. refl }
