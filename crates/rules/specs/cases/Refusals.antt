-- Each answer number of the rules, from calls at their own rows, on both sides of its edge, and what a refused call gives.
use Rattle.std.specs.Prelude.{ℕ, ◌+◌, ◌≡◌, true, false, List, [], ◌∷◌, ◌++◌, replicate, eqb, None, Some}
use Rattle.sizes.specs.declared.width.Width.TheVariants.{W128}
use Rattle.sizes.specs.declared.edition.Edition.TheVariants.{One}
use Rattle.rules.specs.Lists.{every}
use Rattle.rules.specs.Answers.{Answer, answer, Done, BadArena, BadViewport, BadForm, BadRecord, BadOrder, Deep, NoLayer, Ids, FullAttrs, FullRow, FullDepth, BadRun, Open, NoRoom}
use Rattle.rules.specs.Boxes.{Box, box}
use Rattle.rules.specs.Spans.{span}
use Rattle.rules.specs.Split.{split_answer}
use Rattle.rules.specs.Blends.{default-blend}
use Rattle.rules.specs.Segments.{Segment}
use Rattle.rules.specs.Inputs.{Props}
use Rattle.rules.specs.Attributes.{PaintAttr, LayerAttr, FilterPaint, Attrs, no-attrs}
use Rattle.rules.specs.Rows.{fresh-row}
use Rattle.rules.specs.Plans.{Frame, Layer, Step, a-fill, a-push, a-pop, a-filter}
use Rattle.rules.specs.Setups as setup
use Rattle.rules.specs.Setups.{Mode, exact, snapping, Setup}
use Rattle.rules.specs.Painting.{begin}
use Rattle.rules.specs.Walk.{needed}
use Rattle.rules.specs.Calls.{Canvas, given, fresh-canvas, reset-call, step_call, record-call, begin-call, paint-call, unset-call, visible-call, write-call, can-skip-call}
use Rattle.rules.specs.Recording.{in-one}
use Rattle.rules.specs.Words.{file}
use Rattle.rules.specs.cases.Samples as sample
use Rattle.rules.specs.cases.Samples.{solid, alpha, opaque-paint, draw, draw-for, any-props, blend, clip, full, filter, pictureless, node, rec, minus, paint-attr}

-- a screen of one row and two buckets, with room for one command and one depth fill
abbrev pub frame : Frame
frame = record { viewport = box 0 0 256 4; c = 1; d = 1; width = W128 }

abbrev pub start : Canvas
start = fresh-canvas frame

abbrev pub with-state : ℕ → Attrs → List Layer → Canvas
with-state n a ls =
    record {
      screen = record { state = record { frame = frame; next = n; attrs = a; layers = ls }; rows = fresh-row ∷ [] };
      begun = false;
      painters = start.painters;
    }

-- a layer open whose clip has segments a to b
abbrev pub clip-open : ℕ → ℕ → Canvas
clip-open a b =
    with-state 1 no-attrs
    (record { props = any-props default-blend full 0 (Some (clip (box 0 0 256 4) a b 0)) 0; bounds = box 0 0 256 4 } ∷ [])

abbrev pub next-id : ℕ → Canvas
next-id n = with-state n no-attrs []

-- reset to a viewport in a mode, with C and D, lent what a frame needs, and some more render words
abbrev pub reset-in : Mode → Box → ℕ → ℕ → ℕ → ℕ
reset-in m v c d more =
    let q : Setup = record { c = c; d = d; mode = m; width = W128 } in
    let a = needed (setup.frame q v) in
    (reset-call q v (record { render = a.render + more; fills = a.fills; depth = a.depth; minima = a.minima }) start).number

abbrev pub resets : Box → ℕ → ℕ → ℕ → ℕ
resets = reset-in exact

abbrev pub snaps : Box → ℕ
snaps v = reset-in snapping v 1 1 0

-- reset to one row of three buckets, lent so many minima
abbrev pub resets-with-minima : ℕ → ℕ
resets-with-minima n =
    let q : Setup = record { c = 1; d = 1; mode = exact; width = W128 } in
    (reset-call q (box 0 0 260 4) (record { render = 4; fills = 2; depth = 3; minima = n }) start).number

abbrev pub steps : Step → Canvas → ℕ
steps x k = (step_call x k).number

-- a fill of all the segments of a list with an opaque paint
abbrev pub fills : List Segment → ℕ → Step
fills ss n = a-fill (opaque-paint ∷ []) ss (draw 0 n)

-- a fill beside n paints
abbrev pub with-paints : ℕ → Step
with-paints n = a-fill (replicate n opaque-paint) [] (draw 0 0)

abbrev pub plain-props : Props
plain-props = any-props default-blend full 0 None 0

abbrev pub open-layer : Layer
open-layer = record { props = plain-props; bounds = box 0 0 256 4 }

abbrev pub attr : PaintAttr
attr = paint-attr 0 0 3 0 1 0 0 0

abbrev pub layer-attr : LayerAttr
layer-attr = sample.layer-attr 0 3 full 0 1 0

abbrev pub filter-one : FilterPaint
filter-one = record { pixmap = 1; shift-x = minus 0; shift-y = minus 0 }

abbrev pub attrs : ℕ → ℕ → ℕ → Attrs
attrs a b c = record { paints = replicate a attr; layers = replicate b layer-attr; filters = replicate c filter-one }

-- the canvas after a step, and after beginning to paint
abbrev pub after : Step → Canvas → Canvas
after x k = (step_call x k).value

abbrev pub begins : Canvas → Canvas
begins k = (begin-call k).value

-- one depth fill on the row, painting begun
abbrev pub painting : Canvas
painting = begins (after (fills (solid 0 0 64 ∷ []) 1) start)

-- bucket 0 holds id 9 after a direct writing run
abbrev pub nine : Canvas
nine = (write-call 9 0 2 (span 0 1) start).value.canvas

-- a recording of one row and two buckets at C = D = 1, and its words
abbrev pub one_each : Setup
one_each = record { c = 1; d = 1; mode = exact; width = W128 }

abbrev pub recorded : List ℕ → Canvas → Answer Canvas
recorded ws k = record-call one_each (record { render = 4; fills = 2; depth = 2; minima = 3 }) (in-one ws) k

abbrev pub a-file : List ℕ
a-file = file One (rec (box 0 0 256 4) (solid 0 0 64 ∷ []) (draw 0 1 ∷ []) [] (node 0 1 0 ∷ []) 0 1)

-- what a call answered, and what it has to answer
pub record Answered : Type 0 where
  pub got : ℕ
  pub due : ℕ

infixl 70 ◌is◌
abbrev pub ◌is◌ : ℕ → ℕ → Answered
◌is◌ a b = record { got = a; due = b }

abbrev pub answers : List Answered
answers =
    -- 3, before all
    (recorded a-file start).number is Done
    ∷ (recorded (a-file ++ (0 ∷ [])) start).number is BadForm
    ∷ (recorded [] start).number is BadForm
    ∷ (record-call one_each (record { render = 2048; fills = 1024; depth = 0; minima = 0 }) (in-one (file One (rec (box 0 0 0 2048) [] [] [] [] 0 0))) start).number is Done
    ∷ (recorded (file One (rec (box 2 0 256 4) [] [] [] [] 1 0) ++ (0 ∷ [])) start).number is BadForm
    ∷ (recorded (file One (rec (box 2 0 256 4) [] [] [] [] 1 0)) start).number is BadViewport
    -- 2, then 1
    ∷ resets (box 0 0 4096 2048) 1 1024 0 is Done
    ∷ resets (box 0 0 4100 2048) 1 1 0 is BadViewport
    ∷ resets (box 0 0 4096 2052) 1 1 0 is BadViewport
    ∷ resets (box 2 0 4 4) 1 1 0 is BadViewport
    ∷ resets (box 0 0 0 0) 1 1 0 is Done
    ∷ resets (box 0 0 4 4) 0 1 0 is BadArena
    ∷ resets (box 0 0 4 4) 1 1025 0 is BadArena
    ∷ resets (box 0 0 4 4) 1 1 1 is BadArena
    ∷ resets-with-minima 6 is BadArena
    ∷ resets-with-minima 7 is Done
    ∷ resets-with-minima 8 is BadArena
    ∷ resets (box 2 0 4 4) 0 1 1 is BadViewport
    -- .. in snapping mode judged on the snapped box alone
    ∷ snaps (box 1 1 1366 767) is Done
    ∷ snaps (box 7 0 5 4) is Done
    ∷ snaps (box 9 0 3 4) is BadViewport
    ∷ snaps (box 0 7 4 5) is Done
    ∷ snaps (box 0 9 4 3) is BadViewport
    ∷ snaps (box 3 0 4096 2047) is Done
    ∷ snaps (box 3 0 4097 2047) is BadViewport
    ∷ snaps (box 0 3 4 2048) is Done
    ∷ snaps (box 0 3 4 2049) is BadViewport
    ∷ snaps (box 28675 30723 32765 32765) is Done
    ∷ snaps (box 28675 30720 32769 32768) is BadViewport
    ∷ snaps (box 28672 30723 32768 32769) is BadViewport
    ∷ resets (box 1 1 1366 767) 1 1 0 is BadViewport
    ∷ reset-in snapping (box 1 1 1366 767) 0 1 0 is BadArena
    -- 4, then 5
    ∷ steps (fills (solid 0 5 5 ∷ []) 1) start is BadRecord
    ∷ steps (with-paints 4096) start is Done
    ∷ steps (with-paints 4097) start is BadRecord
    ∷ steps (fills (solid 0 5 6 ∷ []) 2) start is BadRecord
    ∷ steps (fills (alpha 0 0 1 4294967279 ∷ []) 1) start is Done
    ∷ steps (fills (alpha 0 0 1 4294967280 ∷ []) 1) start is BadRecord
    ∷ steps (fills (solid 0 5 6 ∷ solid 0 5 7 ∷ []) 2) start is BadOrder
    ∷ steps (fills (solid 0 5 6 ∷ solid 0 5 7 ∷ []) 1) start is Done
    ∷ steps (a-fill (opaque-paint ∷ []) [] (draw-for 255 0 0)) start is Done
    ∷ steps (a-fill (opaque-paint ∷ []) [] (draw-for 256 0 0)) start is BadRecord
    ∷ steps (a-push (any-props (blend 0 14) full 0 None 0)) start is BadRecord
    ∷ steps (a-push (any-props default-blend full 0 None 255)) start is Done
    ∷ steps (a-push (any-props default-blend full 0 None 256)) start is BadRecord
    ∷ steps (a-pop (solid 0 5 6 ∷ [])) (clip-open 0 1) is Done
    ∷ steps (a-pop (solid 0 5 6 ∷ [])) (clip-open 0 2) is BadRecord
    ∷ steps (a-pop (solid 0 5 5 ∷ [])) (clip-open 0 1) is BadRecord
    ∷ steps (a-pop (solid 0 5 6 ∷ solid 0 5 7 ∷ [])) (clip-open 0 2) is BadOrder
    ∷ steps (a-filter 4096 (filter 1 (box 0 0 4 4) 0 0) 0) start is Done
    ∷ steps (a-filter 4097 (filter 1 (box 0 0 4 4) 0 0) 0) start is BadRecord
    ∷ steps (a-filter 0 (pictureless (box 2 0 4 4) 0 0) 0) start is BadRecord
    ∷ steps (a-filter 0 (pictureless (box 0 0 4 4) 32769 0) 0) start is BadRecord
    ∷ steps (a-filter 0 (filter 2147483647 (box 0 0 4 4) 0 0) 0) start is Done
    ∷ steps (a-filter 0 (filter 2147483648 (box 0 0 4 4) 0 0) 0) start is BadRecord
    ∷ steps (a-filter 0 (filter 1 (box 0 0 4 4) 0 0) 255) start is Done
    ∷ steps (a-filter 0 (filter 1 (box 0 0 4 4) 0 0) 256) start is BadRecord
    -- also where nothing is drawn
    ∷ steps (a-filter 0 (pictureless (box 0 0 4 4) 0 0) 256) start is BadRecord
    -- 6 and 7
    ∷ steps (a-push plain-props) (with-state 1 no-attrs (replicate 15 open-layer)) is Done
    ∷ steps (a-push plain-props) (with-state 1 no-attrs (replicate 16 open-layer)) is Deep
    ∷ steps (a-pop []) start is NoLayer
    ∷ steps (a-pop []) (with-state 1 no-attrs (open-layer ∷ [])) is Done
    -- 8: the last id; what takes none is done even when none remains
    ∷ steps (fills [] 0) (next-id 1048576) is Done
    ∷ steps (fills [] 0) (next-id 1048577) is Ids
    ∷ steps (a-filter 0 (filter 1 (box 0 0 0 0) 0 0) 0) (next-id 1048577) is Done
    ∷ steps (a-filter 0 (filter 0 (box 0 0 4 4) 0 0) 0) (next-id 1048577) is Ids
    ∷ steps (a-filter 0 (pictureless (box 0 0 4 4) 0 0) 0) (next-id 1048577) is Done
    -- 9: a fill without segments adds no attribute, one whose segments are cut away does
    ∷ steps (fills (solid 9 0 1 ∷ []) 1) (with-state 1 (attrs 1023 0 0) []) is Done
    ∷ steps (fills (solid 9 0 1 ∷ []) 1) (with-state 1 (attrs 1024 0 0) []) is FullAttrs
    ∷ steps (fills [] 0) (with-state 1 (attrs 1024 0 0) []) is Done
    ∷ steps (a-pop []) (with-state 1 (attrs 0 1023 0) (open-layer ∷ [])) is Done
    ∷ steps (a-pop []) (with-state 1 (attrs 0 1024 0) (open-layer ∷ [])) is FullAttrs
    ∷ steps (a-filter 0 (filter 1 (box 0 0 4 4) 0 0) 0) (with-state 1 (attrs 0 0 256) []) is FullAttrs
    ∷ steps (a-filter 0 (filter 1 (box 0 0 4 4) 0 0) 0) (with-state 1 (attrs 0 0 255) []) is Done
    ∷ steps (fills (solid 9 0 1 ∷ []) 1) (with-state 1048577 (attrs 1024 0 0) []) is Ids
    -- 10 and 11
    ∷ steps (fills (solid 0 0 1 ∷ []) 1) start is Done
    ∷ steps (fills (solid 0 0 1 ∷ solid 0 1 2 ∷ []) 2) start is FullRow
    ∷ steps (fills (solid 0 0 64 ∷ []) 1) start is Done
    ∷ steps (fills (solid 0 0 32 ∷ solid 0 32 64 ∷ []) 2) start is FullDepth
    ∷ steps (fills (solid 0 0 33 ∷ solid 0 33 64 ∷ []) 2) start is FullRow
    -- 13: painting with a layer open, or not begun since the last done building step or direct writing run
    ∷ (begin-call (after (a-push plain-props) start)).number is Open
    ∷ (begin-call start).number is Done
    ∷ (paint-call 0 9 start).number is Open
    ∷ (paint-call 0 9 painting).number is Done
    ∷ (paint-call 0 9 (record { screen = (clip-open 0 0).screen; begun = true; painters = painting.painters })).number is Open
    ∷ (paint-call 0 9 (after (fills [] 0) painting)).number is Open
    ∷ (paint-call 0 9 (write-call 1 0 9 (span 0 1) painting).value.canvas).number is Open
    -- .. a done recording and one refused for its records end painting, one refused for its form does not
    ∷ (paint-call 0 9 (recorded a-file painting).value).number is Open
    ∷ (paint-call 0 9 (recorded (file One (rec (box 0 0 256 4) [] [] [] [] 1 0)) painting).value).number is Open
    ∷ (paint-call 0 9 (recorded [] painting).value).number is Done
    -- 12, then 14
    ∷ (paint-call 1 0 start).number is BadRun
    ∷ (paint-call 0 0 painting).number is NoRoom
    ∷ (paint-call 0 1 painting).number is Done
    ∷ (unset-call 0 9 (span 0 8192) start).number is Done
    ∷ (unset-call 0 9 (span 0 8193) start).number is BadRun
    ∷ (unset-call 0 9 (span 6 5) start).number is BadRun
    ∷ (unset-call 1 9 (span 0 1) start).number is BadRun
    ∷ (unset-call 0 0 (span 5 5) start).number is Done
    ∷ (unset-call 0 0 (span 5 6) start).number is NoRoom
    ∷ (unset-call 0 0 (span 31 32) nine).number is Done
    ∷ (visible-call 8 0 0 (span 31 32) nine).number is Done
    ∷ (visible-call 9 0 0 (span 31 32) nine).number is NoRoom
    ∷ (write-call 0 0 9 (span 0 1) start).number is BadRun
    ∷ (write-call 1 0 9 (span 0 2) start).number is Done
    ∷ (write-call 1 0 9 (span 0 3) start).number is BadRun
    ∷ (write-call 1 0 0 (span 0 2) start).number is NoRoom
    ∷ (can-skip-call 0 (span 0 8192) 1 start).number is Done
    ∷ (can-skip-call 0 (span 0 8193) 1 start).number is BadRun
    ∷ (split_answer 32 (span 0 8192)).number is Done
    ∷ (split_answer 32 (span 0 8193)).number is BadRun
    ∷ (split_answer 32 (span 6 5)).number is BadRun
    ∷ []

abbrev pub AnswersDue : Type 0
AnswersDue = every (λ (t : Answered). eqb t.got t.due) answers ≡ true

-- A done recording leaves the canvas that its steps make of a fresh one: the depth words of what stood there before are cleared. What is refused
-- gives nothing and leaves the canvas as it was.
pub record LeftAlone : Type 0 where
  pub recording : recorded a-file nine ≡ answer Done (after (fills (solid 0 0 64 ∷ []) 1) start)
  pub paint : paint-call 0 0 painting ≡ answer NoRoom (given (record { finished = false; pieces = []; painter = begin 2 }) painting)
  pub write : write-call 1 0 0 (span 0 2) start ≡ answer NoRoom (given [] start)
  pub runs : visible-call 9 0 0 (span 31 32) nine ≡ answer NoRoom []
  pub skip : can-skip-call 1 (span 0 1) 1 start ≡ answer BadRun false
