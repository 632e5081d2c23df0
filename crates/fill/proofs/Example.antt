-- Tests: the contract is met by a real case: the first draw of the rules' worked example, by computation. Assumes nothing.
use Rattle.std.proofs.Common.{◌≡◌, refl, List, [], ◌∷◌, ℕ, ◌-◌, replicate}
use Rattle.sizes.specs.Sizes.{paint-attr-size, paint-attr-table}
use Rattle.sizes.specs.declared.width.Width.TheVariants.{W128}
use Rattle.rules.specs.Spans.{meeting, cut_to}
use Rattle.rules.specs.Split.{split}
use Rattle.rules.specs.Commands.{command_words, depth-words}
use Rattle.rules.specs.Boxes.{good_viewport, scene-tiles}
use Rattle.rules.specs.Segments.{ordered, judge-segments, cut_in, cuts}
use Rattle.rules.specs.Plans.{draw-act, draw-puts, plan-fill}
use Rattle.rules.specs.Steps.{do-act, do-puts, done, passes, refusal}
use Rattle.row.specs.Words.{words, hull_word, include_span, put_command, put_depth}
use Rattle.row.specs.Arena.{cut, lay}
use Rattle.row.specs.Building.{good_row, good_rows, step_number}
use Rattle.rect.specs.declared.Rect.{Rect}
use Rattle.rect.specs.Rects.{box_of}
use Rattle.screen.specs.Screens.{good_clip, good_screen, state-of, screen-after, counted, fresh-screen}
use Rattle.screen.specs.Judging.{judged}
use Rattle.segments.specs.Segs.{seg-at, segs}
use Rattle.inputs.specs.declared.Draw.{Draw}
use Rattle.fill.specs.Fills.{paints, FillLent, fill_lent, first_number, fill_number, fill_done, filled}

abbrev viewport : Rect
viewport = record { x0 = 0; y0 = 0; x1 = 256; y1 = 8 }

-- two rows, room for c commands and 64 depth fills in each, buckets of 128 pixels
abbrev fresh : ℕ → List ℕ → FillLent
fresh c render = fill_lent (fresh-screen (record { viewport = box_of viewport; c = c; d = 64; width = W128 })) (words (replicate 108 0) render (replicate 256 0)) (replicate paint-attr-table 0)

abbrev blank : FillLent
blank = fresh 64 (replicate 512 0)

-- one opaque paint; a solid segment on row 0, tiles 10 to 64
abbrev one-paint : List ℕ
one-paint = 1 ∷ 0 ∷ 0 ∷ 0 ∷ []

abbrev list : List ℕ
list = 0 ∷ 0 ∷ 10 ∷ 64 ∷ 0 ∷ []

-- the list's places 0 to n, drawn by panel 7
abbrev draw : ℕ → Draw
draw n = record { thread = 0; start = 0; end = n; paint = 0; blend = record { mix = 0; compose = 3 }; mask = 0; panel = 7 }

drawn : (filled blank one-paint list (draw 1)).number ≡ 0
unfolding fill_number step_number first_number judged good_viewport good_screen good_clip state-of plan-fill judge-segments ordered segs seg-at paints cuts cut_in cut_to meeting scene-tiles draw-puts draw-act do-puts do-act done refusal passes good_rows good_row cut split put_command put_depth include_span hull_word
drawn = refl

-- row 0 has `P 10 32 - 0` and `D 1 2 0`; its record: 1 command, 1 depth fill, tiles 32 to 64, id 1
render : (filled blank one-paint list (draw 1)).value.words.render ≡ 1 ∷ 655392 ∷ replicate 510 0
unfolding fill_done fill_number step_number first_number judged good_viewport good_screen good_clip state-of plan-fill judge-segments ordered segs seg-at paints cuts cut_in cut_to meeting scene-tiles draw-puts draw-act do-puts do-act done refusal passes good_rows good_row cut lay split put_command put_depth include_span hull_word command_words
render = refl

fills : (filled blank one-paint list (draw 1)).value.words.fills ≡ 65538 ∷ replicate 255 0
unfolding fill_done fill_number step_number first_number judged good_viewport good_screen good_clip state-of plan-fill judge-segments ordered segs seg-at paints cuts cut_in cut_to meeting scene-tiles draw-puts draw-act do-puts do-act done refusal passes good_rows good_row cut lay split put_command put_depth include_span hull_word command_words depth-words
fills = refl

rows : (filled blank one-paint list (draw 1)).value.words.state ≡ 1 ∷ 1 ∷ 32 ∷ 64 ∷ 1 ∷ replicate 103 0
unfolding fill_done fill_number step_number first_number judged good_viewport good_screen good_clip state-of plan-fill judge-segments ordered segs seg-at paints cuts cut_in cut_to meeting scene-tiles draw-puts draw-act do-puts do-act done refusal passes good_rows good_row cut lay split put_command put_depth include_span hull_word
rows = refl

-- one attribute, id 1 and panel 7, and one id and one attribute taken
attrs : (filled blank one-paint list (draw 1)).value.paint-attrs ≡ 0 ∷ 0 ∷ 3 ∷ 0 ∷ 1 ∷ 0 ∷ 0 ∷ 0 ∷ 7 ∷ replicate (paint-attr-table - paint-attr-size) 0
unfolding fill_done fill_number step_number first_number judged good_viewport good_screen good_clip state-of plan-fill judge-segments ordered segs seg-at paints cuts cut_in cut_to meeting scene-tiles draw-puts draw-act do-puts do-act done refusal passes good_rows good_row cut lay split put_command put_depth include_span hull_word
attrs = refl

taken : (filled blank one-paint list (draw 1)).value.screen ≡ counted blank.screen 2 1 0 0
unfolding fill_done screen-after fill_number step_number first_number judged good_viewport good_screen good_clip state-of plan-fill judge-segments ordered segs seg-at paints cuts cut_in cut_to meeting scene-tiles draw-puts draw-act do-puts do-act done refusal passes good_rows good_row cut split put_command put_depth include_span hull_word
taken = refl

-- without segments: an id, and nothing else
empty : filled blank one-paint list (draw 0) ≡ record { number = 0; value = fill_lent (counted blank.screen 2 0 0 0) blank.words blank.paint-attrs }
unfolding fill_done screen-after fill_number step_number first_number judged good_viewport good_screen good_clip state-of plan-fill judge-segments ordered segs seg-at paints cuts cut_in cut_to meeting scene-tiles draw-puts draw-act do-puts do-act done refusal passes good_rows good_row cut lay split put_command put_depth include_span hull_word
empty = refl

-- two commands on a row with room for one: refused by 10, and nothing is altered
abbrev two : List ℕ
two = 0 ∷ 0 ∷ 10 ∷ 20 ∷ 0 ∷ 0 ∷ 0 ∷ 30 ∷ 40 ∷ 0 ∷ []

full : filled (fresh 1 (replicate 8 0)) one-paint two (draw 2) ≡ record { number = 10; value = fresh 1 (replicate 8 0) }
unfolding fill_done fill_number step_number first_number judged good_viewport good_screen good_clip state-of plan-fill judge-segments ordered segs seg-at paints cuts cut_in cut_to meeting scene-tiles draw-puts draw-act do-puts do-act done refusal passes good_rows good_row cut lay split put_command put_depth include_span hull_word
full = refl
